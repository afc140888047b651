use Rattle.ps_workers.proofs.Ruled.{shared_have_rules}
use Rattle.ps_workers.proofs.laws.shared_stores_have_rules.Goals as goal

pub returns : goal.returns
returns c = shared_have_rules
