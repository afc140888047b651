use Rattle.ps_store.proofs.Worked.{generations_take_over}
use Rattle.ps_store.proofs.laws.generations_take_over.Goals as goal

pub returns : goal.returns
returns c = generations_take_over
