-- How much of a text is left.
use Rattle.std.proofs.Common.{ℕ, ◌+◌, List, Option, Some, None, length, Bor}

-- one more than the bytes behind the line feed, where one stood
abbrev pub bytes_left : Option (Bor (List ℕ)) → ℕ
bytes_left None = 0
bytes_left (Some bytes) = length bytes.now + 1
