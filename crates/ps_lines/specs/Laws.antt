-- What holds of every line.
use Rattle.std.specs.Prelude.{◌≡◌, ◌≢◌, ℕ, List, Ok}
use Rattle.ps_lines.specs.declared.lines.Line.{Line}
use Rattle.ps_lines.specs.declared.lines.Line.TheVariants.{Unknown}
use Rattle.ps_lines.specs.Reading.{line_of}
use Rattle.ps_lines.specs.Writing.{IsWritable}

-- a line that was read can be written, unless its kind is not known
abbrev pub LinesReadCanBeWritten : Type 0
LinesReadCanBeWritten = (bytes : List ℕ) (line : Line) → line_of bytes ≡ Ok line → line ≢ Unknown → IsWritable line
