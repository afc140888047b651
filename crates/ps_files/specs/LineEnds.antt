-- Where the lines of a file end.
use Rattle.std.specs.Prelude.{ℕ, ◌+◌, ◌-◌, Bool, false, not, ◌==◌, if◌then◌else◌, List, length, slice_get, Option, Some, None}
use Rattle.ps_file_lines.specs.Lines.{lines_of}

abbrev pub is_open : Option ℕ → Bool
is_open None = false
is_open (Some byte) = not (byte == 10)

-- the last line lacks its line feed
abbrev pub lacks_feed : List ℕ → Bool
lacks_feed bytes = is_open (slice_get bytes (length bytes - 1))

-- the number of the line that would come behind the last one: behind a last line feed there is no line yet
abbrev pub next_number : List ℕ → ℕ
next_number bytes = if lacks_feed bytes then length (lines_of bytes) + 1 else length (lines_of bytes)
