use Rattle.ps_audit.proofs.Meanings.{verdicts_mean}
use Rattle.ps_audit.proofs.laws.verdicts_mean.Goals as goal

pub returns : goal.returns
returns c = verdicts_mean
