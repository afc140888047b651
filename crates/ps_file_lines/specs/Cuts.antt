-- Bytes that are cut in two.
use Rattle.std.specs.Prelude.{ℕ, ◌==◌, List, [], ◌∷◌, Option, Some, None, if◌then◌else◌}

-- what stands before the first byte of that kind; what stands behind it, where there is one
abbrev pub cut : ℕ → List ℕ → List ℕ × Option (List ℕ)
cut at [] = ([], None)
cut at (b ∷ bs) = if b == at then ([], Some bs) else (b ∷ (cut at bs).0, (cut at bs).1)
