use Rattle.ps_store.proofs.Committed.{rows_due}
use Rattle.ps_store.proofs.laws.committed_rows_are_due.Goals as goal

pub returns : goal.returns
returns c = rows_due c.latest_rows_are_granted.ensures
