use Rattle.ps_bucket_log.proofs.Histories.{total_is_sum}
use Rattle.ps_bucket_log.proofs.Fronts.{stands_at_newest}
use Rattle.ps_bucket_log.proofs.laws.totals_are_sums.Goals as goal

pub returns-clause-total : goal.returns-clause-total
returns-clause-total c = total_is_sum

pub returns-clause-position : goal.returns-clause-position
returns-clause-position c = stands_at_newest
