-- A loop that goes over a list from its front: what it has taken, and what is left.
use Rattle.std.proofs.Common.{◌≡◌, ℕ, ◌+◌, ◌<◌, List, [], ◌∷◌, ◌++◌, length, get_or, take, drop, ap, add-one, suc, drop-cons, arith}
use Rattle.std.proofs.Math.Seq.{take-suc}
use Rattle.std.proofs.lemmas.List.{length-drop}

-- one more is taken
pub taken_more : {X : Type 0} (xs : List X) (i : ℕ) (x : X) (ys : List X) → drop i xs ≡ x ∷ ys → (take (i + 1) xs ≡ take i xs ++ x ∷ []) × (drop (i + 1) xs ≡ ys) × (i < length xs)
taken_more xs i x ys e =
    let l : i < length xs = omega (arith, length-drop i xs, ap length e) in
    let d : drop i xs ≡ get_or xs i x ∷ drop (suc i) xs = drop-cons xs i x l in
    let t : take (suc i) xs ≡ take i xs ++ (get_or xs i x ∷ []) = take-suc xs i x l in
    rw add-one ((cc), (cc), l)
