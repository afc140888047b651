use Rattle.ps_compact.proofs.Twice.{twice_is_once}
use Rattle.ps_compact.proofs.laws.twice_is_once.Goals as goal

pub returns : goal.returns
returns c = twice_is_once
