-- How many looks a search by halves takes.
use Rattle.std.proofs.Common.{ℕ, ◌+◌, ◌-◌, ◌*◌, ◌^◌, ◌≤◌, inl, inr, arith}
use Rattle.std.proofs.lemmas.Bool.{cases_lt}
use Rattle.std.proofs.Math.Nat.{pow-le-pow_right}
use Rattle.ps_segments.specs.Depths.{IsDepth}

-- a search in a part of n takes at most as many looks as n has depth
pub within_depth : (used m n d : ℕ) → 2 ^ used ≤ 2 * m + 1 → m ≤ n → IsDepth n d → used ≤ d
within_depth used m n d cost low depth = elim (cases_lt d used) [
  | inl more ↦
      let next : d + 1 ≤ used = omega arith in
      let above : 2 ^ (d + 1) ≤ 2 ^ used = pow-le-pow_right {n = 2} (omega arith) next in
      absurd (omega (arith, above, cost, depth.greatest))
  | inr within ↦ within
]

-- the same, of looks that were counted from some number on
pub counted_within : (before after m n d : ℕ) → 2 ^ (after - before) ≤ 2 * m + 1 → m ≤ n → IsDepth n d → after ≤ before + d
counted_within before after m n d cost low depth =
    let used : after - before ≤ d = within_depth (after - before) m n d cost low depth in
    omega (arith, used)
