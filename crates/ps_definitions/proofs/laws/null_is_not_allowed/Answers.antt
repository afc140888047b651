use Rattle.ps_definitions.proofs.Meetings.{null_not_allowed}
use Rattle.ps_definitions.proofs.laws.null_is_not_allowed.Goals as goal

pub returns : goal.returns
returns c = null_not_allowed
