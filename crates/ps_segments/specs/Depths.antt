-- How many looks a search by halves takes.
use Rattle.std.specs.Prelude.{ℕ, ◌+◌, ◌*◌, ◌^◌, ◌<◌, ◌≤◌}

-- d is the greatest number with 2 ^ d at most 2 n + 1
pub record IsDepth (n d : ℕ) : Type 0 where
  pub within : 2 ^ d ≤ 2 * n + 1
  pub greatest : 2 * n + 1 < 2 ^ (d + 1)
