-- What is compacted is a log.
use Rattle.std.proofs.Common.{◌≡◌, ℕ, zero, suc, ◌<◌, ◌≤◌, false, inl, inr, Option, Some, None, List, [], ◌∷◌, ◌++◌, take, drop, length, refl, ap, arith}
use Rattle.std.proofs.lemmas.Bool.{cases_Bool, cases_lt, lt-ltb, le-ltb, lt-leb, le-leb, or_parts, or_from}
use Rattle.ps_data.specs.declared.ids.OpId.{OpId}
use Rattle.ps_bucket_log.specs.declared.ops.Op.{Op}
use Rattle.ps_bucket_log.specs.declared.ops.Op.TheVariants.{Put, Remove, Move, Clear}
use Rattle.ps_bucket_log.specs.Ops.{id_of, is_put, is_clear, has_clear, upto, past, newest, place_after}
use Rattle.ps_bucket_log.specs.Logs.{IsRising, IsLog, rest}
use Rattle.ps_compact.specs.Compaction.{target_behind, moved_to, moved, front_count, clear_for, with_clear, compacted}

-- up to an id and past it, a rising list is whole

pub past-rising : (p q : ℕ) (xs : List Op) → IsRising q xs → p ≤ q → past p xs ≡ xs
past-rising p q [] rising low = refl
past-rising p q (x ∷ xs) rising low =
    let above : p < id_of x = omega (arith, rising.0) in
    rw (lt-ltb p (id_of x) above) (ap (λ ys. x ∷ ys) (past-rising p (id_of x) xs rising.1 (omega arith)))

pub upto-rising : (p q : ℕ) (xs : List Op) → IsRising q xs → p ≤ q → upto p xs ≡ []
upto-rising p q [] rising low = refl
upto-rising p q (x ∷ xs) rising low =
    let above : p < id_of x = omega (arith, rising.0) in
    rw (lt-leb (id_of x) p above) (upto-rising p (id_of x) xs rising.1 (omega arith))

pub upto-past : (p q : ℕ) (xs : List Op) → IsRising q xs → upto p xs ++ past p xs ≡ xs
upto-past p q [] rising = refl
upto-past p q (x ∷ xs) rising = elim (cases_lt p (id_of x)) [
  | inl above ↦ rw (lt-leb (id_of x) p above, lt-ltb p (id_of x) above, upto-rising p (id_of x) xs rising.1 (omega arith), past-rising p (id_of x) xs rising.1 (omega arith)) refl
  | inr below ↦ rw (le-leb (id_of x) p below, le-ltb p (id_of x) below) (ap (λ ys. x ∷ ys) (upto-past p (id_of x) xs rising.1))
]

-- a MOVE has the id of what it stands for

pub id_of-moved_to : (target : Option OpId) (op : Op) → id_of (moved_to target op) ≡ id_of op
id_of-moved_to None op = refl
id_of-moved_to (Some target) op = refl

pub IsRising-moved : (p : ℕ) (front back : List Op) → IsRising p (front ++ back) → IsRising p (moved front ++ back)
IsRising-moved p [] back rising = rising
IsRising-moved p (op ∷ ops) back rising =
    rw (id_of-moved_to (target_behind op ops) op) (rising.0, IsRising-moved (id_of op) ops back rising.1)

-- a CLEAR stays, and no other comes

is_clear-moved_to : (target : Option OpId) (op : Op) → is_clear op ≡ false → is_clear (moved_to target op) ≡ false
is_clear-moved_to None op no_clear = no_clear
is_clear-moved_to (Some target) op no_clear = refl

pub has_clear-moved : (front back : List Op) → has_clear (front ++ back) ≡ false → has_clear (moved front ++ back) ≡ false
has_clear-moved [] back no_clear = no_clear
has_clear-moved (op ∷ ops) back no_clear =
    let parts = or_parts (is_clear op) (has_clear (ops ++ back)) no_clear in
    or_from (is_clear (moved_to (target_behind op ops) op)) (has_clear (moved ops ++ back))
    (is_clear-moved_to (target_behind op ops) op parts.0) (has_clear-moved ops back parts.1)

-- a list that begins with no CLEAR is its own rest
rest-plain : (op : Op) (ops : List Op) → is_clear op ≡ false → has_clear ops ≡ false → has_clear (rest (op ∷ ops)) ≡ false
rest-plain op ops first behind = rw first (or_from (is_clear op) (has_clear ops) first behind)

rest-moved-plain : (op : Op) (ops back : List Op) → is_clear op ≡ false → has_clear (rest (op ∷ ops ++ back)) ≡ false
    → has_clear (rest (moved (op ∷ ops) ++ back)) ≡ false
rest-moved-plain op ops back first one_clear =
    let all : has_clear (op ∷ ops ++ back) ≡ false = rw first at one_clear in
    rest-plain (moved_to (target_behind op ops) op) (moved ops ++ back) (is_clear-moved_to (target_behind op ops) op first)
    (has_clear-moved ops back ((or_parts (is_clear op) (has_clear (ops ++ back)) all).1))

one_clear-moved : (front back : List Op) → has_clear (rest (front ++ back)) ≡ false → has_clear (rest (moved front ++ back)) ≡ false
one_clear-moved [] back one_clear = one_clear
one_clear-moved (Put id key content sum ∷ ops) back one_clear = rest-moved-plain (Put id key content sum) ops back refl one_clear
one_clear-moved (Remove id key sum ∷ ops) back one_clear = rest-moved-plain (Remove id key sum) ops back refl one_clear
one_clear-moved (Move id sum target ∷ ops) back one_clear = rest-moved-plain (Move id sum target) ops back refl one_clear
one_clear-moved (Clear id sum target ∷ ops) back one_clear = has_clear-moved ops back one_clear

pub IsLog-moved : (front back : List Op) → IsLog (front ++ back) → IsLog (moved front ++ back)
IsLog-moved front back log = record {
  rising = IsRising-moved 0 front back log.rising;
  one_clear = one_clear-moved front back log.one_clear;
}

-- a CLEAR in place of a front

pub front_count-within : (ops : List Op) → front_count ops ≤ length ops
front_count-within [] = omega arith
front_count-within (op ∷ ops) = elim (cases_Bool (is_put op)) [
  | inl put ↦ rw put (omega arith)
  | inr other ↦ rw other (omega (arith, front_count-within ops))
]

pub IsRising-cut : (n p : ℕ) (front back : List Op) → n ≤ length front → IsRising p (front ++ back)
    → (p ≤ place_after p (take n front)) × IsRising (place_after p (take n front)) (drop n front ++ back)
IsRising-cut zero p front back within rising = (omega arith, rising)
IsRising-cut (suc n) p [] back within rising = absurd (omega arith)
IsRising-cut (suc n) p (op ∷ ops) back within rising =
    let behind = IsRising-cut n (id_of op) ops back (omega arith) rising.1 in
    (omega (arith, rising.0, behind.0), behind.1)

has_clear-drop : (n : ℕ) (front back : List Op) → has_clear (front ++ back) ≡ false → has_clear (drop n front ++ back) ≡ false
has_clear-drop zero front back no_clear = no_clear
has_clear-drop (suc n) [] back no_clear = no_clear
has_clear-drop (suc n) (op ∷ ops) back no_clear = has_clear-drop n ops back ((or_parts (is_clear op) (has_clear (ops ++ back)) no_clear).1)

has_clear-rest : (op : Op) (ops : List Op) → has_clear (rest (op ∷ ops)) ≡ false → has_clear ops ≡ false
has_clear-rest op ops one_clear = elim (cases_Bool (is_clear op)) [
  | inl clear ↦ rw clear at one_clear
  | inr other ↦
      let all : has_clear (op ∷ ops) ≡ false = rw other at one_clear in
      (or_parts (is_clear op) (has_clear ops) all).1
]

-- behind the first operation there is no CLEAR
pub has_clear-cut : (n : ℕ) (front back : List Op) → 0 < n → n ≤ length front → has_clear (rest (front ++ back)) ≡ false → has_clear (drop n front ++ back) ≡ false
has_clear-cut zero front back some within one_clear = absurd (omega arith)
has_clear-cut (suc n) [] back some within one_clear = absurd (omega arith)
has_clear-cut (suc n) (op ∷ ops) back some within one_clear = has_clear-drop n ops back (has_clear-rest op (ops ++ back) one_clear)

pub newest-cut : (n : ℕ) (front back : List Op) → 0 < n → n ≤ length front → IsRising 0 (front ++ back) → 0 < newest (take n front)
newest-cut zero front back some within rising = absurd (omega arith)
newest-cut (suc n) [] back some within rising = absurd (omega arith)
newest-cut (suc n) (op ∷ ops) back some within rising =
    let behind = IsRising-cut n (id_of op) ops back (omega arith) rising.1 in
    omega (arith, rising.0, behind.0)

IsLog-cut : (n : ℕ) (front back : List Op) → 0 < n → n ≤ length front → IsLog (front ++ back) → IsLog (clear_for (take n front) ∷ drop n front ++ back)
IsLog-cut n front back some within log = record {
  rising = (newest-cut n front back some within log.rising, (IsRising-cut n 0 front back within log.rising).1);
  one_clear = has_clear-cut n front back some within log.one_clear;
}

IsLog-with_clear : (front back : List Op) → IsLog (front ++ back) → IsLog (with_clear front ++ back)
IsLog-with_clear front back log = elim (cases_lt (front_count front) 2) [
  | inl short ↦ rw (lt-leb 2 (front_count front) short) log
  | inr long ↦ rw (le-leb 2 (front_count front) long) (IsLog-cut (front_count front) front back (omega arith) (front_count-within front) log)
]

pub compacted_is_log : (log : List Op) (level : ℕ) → IsLog log → IsLog (compacted level log)
compacted_is_log log level is_log =
    let start : IsLog (upto level log ++ past level log) = rw (upto-past level 0 log is_log.rising) is_log in
    IsLog-with_clear (moved (upto level log)) (past level log) (IsLog-moved (upto level log) (past level log) start)
