-- A binary search by id finds where a rising list is cut.
use Rattle.std.proofs.Common.{◌≡◌, ℕ, zero, suc, ◌+◌, ◌<◌, ◌≤◌, false, ◌||◌, inl, inr, List, [], ◌∷◌, ◌++◌, take, drop, get_or, length, fold, refl, sym, ap, ◌∙◌, arith}
use Rattle.std.proofs.lemmas.List.Folds.{list_any-append}
use Rattle.std.proofs.lemmas.Bool.{cases_Bool, or_parts, or_from, le-ltb, le-leb}
use Rattle.ps_bucket_log.specs.declared.ops.Op.{Op}
use Rattle.ps_bucket_log.specs.Ops.{id_of, is_clear, has_clear, newest, upto, past}
use Rattle.ps_bucket_log.specs.Logs.{IsRising, IsLog, rest}
use Rattle.ps_bucket_log.proofs.Slices.{past-rising, upto-rising}

rising-at : (q : ℕ) (xs : List Op) (i : ℕ) (d : Op) → IsRising q xs → i < length xs → q < id_of (get_or xs i d)
rising-at q [] i d rising within = absurd (omega arith)
rising-at q (x ∷ xs) zero d rising within = rising.0
rising-at q (x ∷ xs) (suc i) d rising within = omega (arith, rising.0, rising-at (id_of x) xs i d rising.1 (omega arith))

-- the first operation of a rising list is up to an id, where one is
first_low : (id i : ℕ) (x : Op) (xs : List Op) → IsRising (id_of x) xs → i < length (x ∷ xs)
    → ((k : ℕ) (d : Op) → suc i ≡ k + 1 → id_of (get_or (x ∷ xs) k d) ≤ id) → id_of x ≤ id
first_low id zero x xs rising within front = front zero x (omega arith)
first_low id (suc i) x xs rising within front =
    omega (arith, front (suc i) x (omega arith), rising-at (id_of x) xs i x rising (omega arith))

-- at the place between what is up to an id and what is past it, a rising list is cut as by filters
pub cut_at : (q id i : ℕ) (xs : List Op) → IsRising q xs → i ≤ length xs
    → ((k : ℕ) (d : Op) → i ≡ k + 1 → id_of (get_or xs k d) ≤ id) → ((d : Op) → i < length xs → id < id_of (get_or xs i d))
    → (take i xs ≡ upto id xs) × (drop i xs ≡ past id xs)
cut_at q id zero [] rising within front back = (refl, refl)
cut_at q id (suc i) [] rising within front back = absurd (omega arith)
cut_at q id zero (x ∷ xs) rising within front back =
    let above : id < id_of x = back x (omega arith) in
    let later : IsRising id (x ∷ xs) = (above, rising.1) in
    (sym (upto-rising id id (x ∷ xs) later (omega arith)), sym (past-rising id id (x ∷ xs) later (omega arith)))
cut_at q id (suc i) (x ∷ xs) rising within front back =
    let low : id_of x ≤ id = first_low id i x xs rising.1 (omega arith) front in
    let later = cut_at (id_of x) id i xs rising.1 (omega arith) (λ k d is. front (suc k) d (omega arith)) (λ d more. back d (omega arith)) in
    (rw (le-leb (id_of x) id low) (ap (λ ys. x ∷ ys) later.0), rw (le-ltb id (id_of x) low) later.1)

-- an operation past the newest keeps a log a log
IsRising-push : (p : ℕ) (ops : List Op) (op : Op) → IsRising p ops → fold (λ a x. id_of x) p ops < id_of op → IsRising p (ops ++ op ∷ [])
IsRising-push p [] op rising newer = (newer, tt)
IsRising-push p (x ∷ xs) op rising newer = (rising.0, IsRising-push (id_of x) xs op rising.1 newer)

one_clear-push : (ops : List Op) (op : Op) → has_clear (rest ops) ≡ false → is_clear op ≡ false → has_clear (rest (ops ++ op ∷ [])) ≡ false
one_clear-push [] op one_clear no_clear = rw no_clear (rw no_clear refl)
one_clear-push (x ∷ xs) op one_clear no_clear = elim (cases_Bool (is_clear x)) [
  | inl clear ↦
      let behind : has_clear xs ≡ false = rw clear at one_clear in
      rw clear (list_any-append is_clear xs (op ∷ []) ∙ or_from (has_clear xs) (is_clear op || false) behind (or_from (is_clear op) false no_clear refl))
  | inr other ↦
      let all : has_clear (x ∷ xs) ≡ false = rw other at one_clear in
      let behind : has_clear xs ≡ false = (or_parts (is_clear x) (has_clear xs) all).1 in
      rw other (or_from (is_clear x) (has_clear (xs ++ op ∷ [])) other
      (list_any-append is_clear xs (op ∷ []) ∙ or_from (has_clear xs) (is_clear op || false) behind (or_from (is_clear op) false no_clear refl)))
]

pub IsLog-push : (ops : List Op) (op : Op) → IsLog ops → newest ops < id_of op → is_clear op ≡ false → IsLog (ops ++ op ∷ [])
IsLog-push ops op log newer no_clear = record {
  rising = IsRising-push 0 ops op log.rising newer;
  one_clear = one_clear-push ops op log.one_clear no_clear;
}
