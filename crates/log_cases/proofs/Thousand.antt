-- A list of 1,000 has depth 10.
use Rattle.std.proofs.Common.{◌≡◌, ℕ, sym, subst, arith}
use Rattle.ps_segments.specs.Depths.{IsDepth}

a_thousand : IsDepth 1000 10
a_thousand = record { within = omega arith; greatest = omega arith }

pub depth_of_thousand : (n : ℕ) → n ≡ 1000 → IsDepth n 10
depth_of_thousand n is = subst (λ (m : ℕ). IsDepth m 10) (sym is) a_thousand
