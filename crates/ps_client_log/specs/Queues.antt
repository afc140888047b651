-- What a queue of local writes holds.
use Rattle.std.specs.Prelude.{ℕ, List}
use Rattle.ps_rows.specs.declared.changes.Change.{Change}

-- the writes that wait, and for how many more there is room
pub record QueueState : Type 0 where
  pub items : List Change
  pub room : ℕ
