use Rattle.ps_store.proofs.Telling.{tells_reach}
use Rattle.ps_store.proofs.laws.ledgers_tell_reach.Goals as goal

pub returns : goal.returns
returns c = tells_reach
