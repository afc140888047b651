use Rattle.ps_store.proofs.Telling.{generations_tell}
use Rattle.ps_store.proofs.laws.generations_tell.Goals as goal

pub returns : goal.returns
returns c = generations_tell
