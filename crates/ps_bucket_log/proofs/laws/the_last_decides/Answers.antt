use Rattle.ps_bucket_log.proofs.Entries.{last_decides, none_is_held}
use Rattle.ps_bucket_log.proofs.laws.the_last_decides.Goals as goal

pub returns-clause-last : goal.returns-clause-last
returns-clause-last c = last_decides

pub returns-clause-none : goal.returns-clause-none
returns-clause-none c = none_is_held
