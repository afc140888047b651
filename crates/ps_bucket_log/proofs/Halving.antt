-- A search by halves: how much each look leaves.
use Rattle.std.proofs.Common.{◌≡◌, ℕ, zero, suc, ◌+◌, ◌*◌, ◌^◌, ◌<◌, ◌≤◌, List, [], ◌∷◌, length, get_or, refl, subst, ap, ◌∙◌, arith}
use Rattle.std.proofs.Math.Nat.{mul-le-mul_left, pow-suc}

-- one look leaves at most half of the gap
pub gap-halves : (used next gap left n : ℕ) → next ≡ suc used → 2 * left ≤ gap → 2 ^ used * gap ≤ n → 2 ^ next * left ≤ n
gap-halves used next gap left n is half within =
    let more : 2 ^ used * (2 * left) ≤ 2 ^ used * gap = mul-le-mul_left (2 ^ used) half in
    rw (is, pow-suc 2 used) (omega (arith, more))

-- and where a gap is left, one more look is allowed
pub looks-within : (used next gap n : ℕ) → next ≡ suc used → 0 < gap → 2 ^ used * gap ≤ n → 2 ^ next ≤ 2 * n + 1
looks-within used next gap n is some within =
    let one : 1 ≤ gap = omega arith in
    let more : 2 ^ used * 1 ≤ 2 ^ used * gap = mul-le-mul_left (2 ^ used) one in
    rw (is, pow-suc 2 used) (omega (arith, more))

-- an element in its place is that element, whatever the default
get_or-any : {A : Type 0} (xs : List A) (i : ℕ) (a b : A) → i < length xs → get_or xs i a ≡ get_or xs i b
get_or-any [] i a b within = absurd (omega arith)
get_or-any (x ∷ xs) zero a b within = refl
get_or-any (x ∷ xs) (suc i) a b within = get_or-any xs i a b (omega arith)

-- what one look at the middle tells of it
pub found-low : {A : Type 0} (id : A → ℕ) (all : List A) (middle k : ℕ) (x d : A) (limit : ℕ) → middle < length all → x ≡ get_or all middle x
    → id x ≤ limit → middle + 1 ≡ k + 1 → id (get_or all k d) ≤ limit
found-low {A = A} id all middle k x d limit within is low next =
    let same : middle ≡ k = omega arith in
    subst (λ (y : A). id y ≤ limit) (is ∙ get_or-any all middle x d within ∙ ap (λ (m : ℕ). get_or all m d) same) low

pub found-high : {A : Type 0} (id : A → ℕ) (all : List A) (middle : ℕ) (x d : A) (limit : ℕ) → middle < length all → x ≡ get_or all middle x
    → limit < id x → limit < id (get_or all middle d)
found-high {A = A} id all middle x d limit within is high =
    subst (λ (y : A). limit < id y) (is ∙ get_or-any all middle x d within) high
