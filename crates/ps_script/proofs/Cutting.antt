-- What stands before the first byte of a kind, and what stands behind it.
use Rattle.std.proofs.Common.{◌≡◌, ℕ, Bool, true, false, not, cond, List, [], ◌∷◌, ◌++◌, Option, Some, None, refl, ap, MatchOption}
use Rattle.std.specs.Prelude.{◌==◌}
use Rattle.std.specs.List.{list_all}
use Rattle.std.proofs.lemmas.Bool.Decides.{Decides-eqb}
use Rattle.ps_file_lines.specs.Cuts.{cut}
use Rattle.ps_script.proofs.Tests.{both}

-- one byte more before what was cut
abbrev next : Bool → ℕ → List ℕ → List ℕ × Option (List ℕ) → List ℕ × Option (List ℕ)
next b x xs own = cond b ([], Some xs) (x ∷ own.0, own.1)

differs : (b : Bool) → not b ≡ true → b ≡ false
differs true h = cc
differs false h = refl

-- a part without such a byte ends where one stands
pub cut_behind : (at : ℕ) (front rest : List ℕ) → list_all (λ b. not (b == at)) front ≡ true → cut at (front ++ at ∷ [] ++ rest) ≡ (front, Some rest)
cut_behind at [] rest h = let same : (at == at) ≡ true = (Decides-eqb at at).1 refl in rw same refl
cut_behind at (b ∷ front) rest h =
    let own = both (not (b == at)) (list_all (λ b. not (b == at)) front) h in
    let other : (b == at) ≡ false = differs (b == at) own.0 in
    rw (other, cut_behind at front rest own.1) refl

behind : (at x : ℕ) (xs front : List ℕ) (o : Option (List ℕ)) → MatchOption o (xs ≡ front) (λ rest. xs ≡ front ++ at ∷ rest)
    → MatchOption o (x ∷ xs ≡ x ∷ front) (λ rest. x ∷ xs ≡ x ∷ front ++ at ∷ rest)
behind at x xs front None h = ap (λ ys. x ∷ ys) h
behind at x xs front (Some rest) h = ap (λ ys. x ∷ ys) h

joins : (b : Bool) (at x : ℕ) (xs : List ℕ) (own : List ℕ × Option (List ℕ)) → (b ≡ true → x ≡ at) → MatchOption own.1 (xs ≡ own.0) (λ rest. xs ≡ own.0 ++ at ∷ rest)
    → MatchOption (next b x xs own).1 (x ∷ xs ≡ (next b x xs own).0) (λ rest. x ∷ xs ≡ (next b x xs own).0 ++ at ∷ rest)
joins true at x xs own e h = ap (λ y. y ∷ xs) (e refl)
joins false at x xs own e h = behind at x xs own.0 own.1 h

-- what was cut lies one behind the other
pub cut_joins : (at : ℕ) (xs : List ℕ) → MatchOption (cut at xs).1 (xs ≡ (cut at xs).0) (λ rest. xs ≡ (cut at xs).0 ++ at ∷ rest)
cut_joins at [] = refl
cut_joins at (x ∷ xs) = joins (x == at) at x xs (cut at xs) (Decides-eqb x at).0 (cut_joins at xs)
