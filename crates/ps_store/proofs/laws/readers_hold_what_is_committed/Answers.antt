use Rattle.ps_store.proofs.Committed.{readers_hold}
use Rattle.ps_store.proofs.laws.readers_hold_what_is_committed.Goals as goal

pub returns : goal.returns
returns c = readers_hold c.readers_hold_what_steps_leave.ensures
