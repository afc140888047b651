-- An operation more, past the newest one.
use Rattle.std.proofs.Common.{◌≡◌, ℕ, ◌<◌, ◌≤◌, ◌+◌, List, [], ◌∷◌, ◌++◌, fold, refl, ap, ◌∙◌, arith}
use Rattle.ps_bucket_log.specs.declared.ops.Op.{Op}
use Rattle.ps_bucket_log.specs.Ops.{id_of, newest}
use Rattle.ps_bucket_log.specs.Logs.{IsRising}

last_more : (p : ℕ) (ops : List Op) (op : Op) → fold (λ p op. id_of op) p (ops ++ op ∷ []) ≡ id_of op
last_more p [] op = refl
last_more p (x ∷ ops) op = last_more (id_of x) ops op

rising_more : (p : ℕ) (ops : List Op) (op : Op) → IsRising p ops → fold (λ p op. id_of op) p ops < id_of op → IsRising p (ops ++ op ∷ [])
rising_more p [] op rising past = (past, tt)
rising_more p (x ∷ ops) op rising past = (rising.0, rising_more (id_of x) ops op rising.1 past)

pub one_more : (ops all : List Op) (op : Op) (before : ℕ) → IsRising 0 ops → newest ops ≡ before → id_of op ≡ before + 1 → all ≡ ops ++ op ∷ []
    → IsRising 0 all × (newest all ≡ before + 1)
one_more ops all op before rising last is e =
    rw e (rising_more 0 ops op rising (omega (arith, last, is)), last_more 0 ops op ∙ is)
