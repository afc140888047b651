use Rattle.ps_files.proofs.MadeRules.{made_are_read}
use Rattle.ps_files.proofs.laws.made_rules_are_read.Goals as goal

pub returns : goal.returns
returns c = made_are_read
