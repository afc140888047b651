-- The lines of a script that are skipped.
use Rattle.std.specs.Prelude.{ℕ, Bool, false, ◌||◌, ◌==◌, List, [], ◌∷◌}
pub use Rattle.ps_file_lines.specs.Lines.{is_blank, lines_of}

-- the first byte is `#`
abbrev pub is_comment : List ℕ → Bool
is_comment [] = false
is_comment (b ∷ bs) = b == 35

-- a line that is passed over: blank, or a comment
abbrev pub is_skipped : List ℕ → Bool
is_skipped line = is_blank line || is_comment line
