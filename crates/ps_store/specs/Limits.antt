-- What bounds a store.
use Rattle.std.specs.Prelude.{◌≤◌}
pub use Rattle.ps_data.specs.Numbers.{greatest}
use Rattle.ps_store.specs.declared.fixed.Limits.{Limits}

abbrev pub usual_limits : Limits
usual_limits = record { ops = greatest; numbers = greatest; positions = greatest; buckets = 1000; entries = 1000; generations = 1000000 }

-- no limit is above the usual one
pub record AreWithin (limits : Limits) : Type 0 where
  pub ops : limits.ops ≤ greatest
  pub numbers : limits.numbers ≤ greatest
  pub positions : limits.positions ≤ greatest
  pub buckets : limits.buckets ≤ 1000
  pub entries : limits.entries ≤ 1000
  pub generations : limits.generations ≤ 1000000
