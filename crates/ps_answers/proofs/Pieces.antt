-- Pieces of bytes.
use Rattle.std.proofs.Common.{◌≡◌, ℕ, ◌-◌, List, ◌++◌, length, take, drop, ◌∙◌, arith, take_all}
use Rattle.std.proofs.lemmas.List.{take-append-le, length-drop}

-- what was turned to the end is cut off
pub turned : (bytes : List ℕ) (count left : ℕ) → left ≡ length bytes - count
    → take left (drop count bytes ++ take count bytes) ≡ drop count bytes
turned bytes count left is =
    take-append-le left (drop count bytes) (take count bytes) (omega (arith, is, length-drop count bytes))
    ∙ take_all left (drop count bytes) (omega (arith, is, length-drop count bytes))

-- what was written back to its place is what was written
pub written_back : (len : ℕ) (new rest : List ℕ) → length new ≡ len → take len (new ++ rest) ≡ new
written_back len new rest is = take-append-le len new rest (omega (arith, is)) ∙ take_all len new (omega (arith, is))
