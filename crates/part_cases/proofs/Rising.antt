-- Operations whose ids rise, one more at a time.
use Rattle.std.proofs.Common.{◌≡◌, ℕ, ◌<◌, ◌≤◌, ◌+◌, List, [], ◌∷◌, ◌++◌, take, get_or, length, fold, refl, sym, ap, ◌∙◌, arith}
use Rattle.std.proofs.lemmas.List.{take_more}
use Rattle.ps_bucket_log.specs.declared.ops.Op.{Op}
use Rattle.ps_bucket_log.specs.Ops.{id_of}
use Rattle.ps_bucket_log.specs.Logs.{IsRising}
use Rattle.ps_client_log.specs.Edits.{CanTake}

-- the id of the last operation, p where there is none
abbrev pub last_of : ℕ → List Op → ℕ
last_of p ops = fold (λ (last : ℕ) (op : Op). id_of op) p ops

pub last_more : (p : ℕ) (ops : List Op) (op : Op) → last_of p (ops ++ op ∷ []) ≡ id_of op
last_more p [] op = refl
last_more p (x ∷ ops) op = last_more (id_of x) ops op

pub rising_more : (p : ℕ) (ops : List Op) (op : Op) → IsRising p ops → last_of p ops < id_of op → IsRising p (ops ++ op ∷ [])
rising_more p [] op rising past = (past, tt)
rising_more p (x ∷ ops) op rising past = (rising.0, rising_more (id_of x) ops op rising.1 past)

pub one_more : (p before : ℕ) (ops all : List Op) (op : Op) → IsRising p ops → last_of p ops ≡ p + before → id_of op ≡ p + before + 1 → all ≡ ops ++ op ∷ []
    → IsRising p all × (last_of p all ≡ p + (before + 1))
one_more p before ops all op rising last is e =
    rw e (rising_more p ops op rising (omega (arith, last, is)), omega (arith, last_more p ops op, is))

-- operations whose last id is small enough can be taken
last_within : (p : ℕ) (ops : List Op) (top : ℕ) → last_of p ops ≤ top → last_of 0 ops ≤ top
last_within p [] top within = omega arith
last_within p (op ∷ ops) top within = within

pub can_take : (p : ℕ) (ops : List Op) → IsRising p ops → last_of p ops ≤ 9223372036854775807 → CanTake p ops
can_take p ops rising within = record { rising = rising; within = last_within p ops 9223372036854775807 within }

-- one more operation of a list is past those before it
pub take_rising : (p : ℕ) (ops : List Op) (i : ℕ) (op : Op) → i < length ops → op ≡ get_or ops i op → IsRising p (take i ops) → last_of p (take i ops) < id_of op
    → IsRising p (take (i + 1) ops) × (last_of p (take (i + 1) ops) ≡ id_of op)
take_rising p ops i op within is rising past =
    let more : take (i + 1) ops ≡ take i ops ++ op ∷ [] = take_more ops i op within ∙ ap (λ (x : Op). take i ops ++ x ∷ []) (sym is) in
    rw more (rising_more p (take i ops) op rising past, last_more p (take i ops) op)
