-- Operations up to an id.
use Rattle.std.proofs.Common.{◌≡◌, ℕ, ◌≤◌, true, List, [], ◌∷◌, refl, ap, fold, arith}
use Rattle.std.specs.Prelude.{nat_le}
use Rattle.std.proofs.lemmas.Bool.Decides.{nat_tests}
use Rattle.ps_bucket_log.specs.declared.ops.Op.{Op}
use Rattle.ps_bucket_log.specs.Logs.{IsRising}
use Rattle.ps_bucket_log.specs.Ops.{id_of, upto}

pub newest_up : (p : ℕ) (ops : List Op) → IsRising p ops → p ≤ fold (λ (a : ℕ) (o : Op). id_of o) p ops
newest_up p [] h = omega arith
newest_up p (op ∷ ops) h = omega (arith, h.0, newest_up (id_of op) ops h.1)

is_le : (a b : ℕ) → a ≤ b → nat_le a b ≡ true
is_le a b h = grind (arith, nat_tests)

-- all ids of a log are up to its newest one
pub all_upto : (p q : ℕ) (ops : List Op) → IsRising p ops → fold (λ (a : ℕ) (o : Op). id_of o) p ops ≤ q → upto q ops ≡ ops
all_upto p q [] h k = refl
all_upto p q (op ∷ ops) h k =
    let low : nat_le (id_of op) q ≡ true = is_le (id_of op) q (omega (arith, k, newest_up (id_of op) ops h.1)) in
    rw low (ap (λ (xs : List Op). op ∷ xs) (all_upto (id_of op) q ops h.1 k))
