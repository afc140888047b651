-- Operations whose ids rise, one more at a time.
use Rattle.std.proofs.Common.{◌≡◌, ℕ, ◌<◌, ◌≤◌, ◌+◌, List, [], ◌∷◌, ◌++◌, arith}
use Rattle.ps_bucket_log.specs.declared.ops.Op.{Op}
use Rattle.ps_bucket_log.specs.Ops.{id_of, place_after}
use Rattle.ps_bucket_log.specs.Logs.{IsRising}
use Rattle.ps_bucket_log.specs.Laws.{RisesOn}
use Rattle.ps_client_log.specs.Edits.{CanTake}

pub one_more : RisesOn → (p before : ℕ) (ops all : List Op) (op : Op) → IsRising p ops → place_after p ops ≡ p + before → id_of op ≡ p + before + 1 → all ≡ ops ++ op ∷ []
    → IsRising p all × (place_after p all ≡ p + (before + 1))
one_more law p before ops all op rising last is e =
    let past : place_after p ops < id_of op = omega (arith, last, is) in
    let on = law p ops (op ∷ []) rising (past, tt) in
    rw e (on.0, omega (arith, on.1, is))

-- operations whose last id is small enough can be taken
last_within : (p : ℕ) (ops : List Op) (top : ℕ) → place_after p ops ≤ top → place_after 0 ops ≤ top
last_within p [] top within = omega arith
last_within p (op ∷ ops) top within = within

pub can_take : (p : ℕ) (ops : List Op) → IsRising p ops → place_after p ops ≤ 9223372036854775807 → CanTake p ops
can_take p ops rising within = record { rising = rising; within = last_within p ops 9223372036854775807 within }
