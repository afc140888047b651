use Rattle.ps_bucket_log.proofs.Histories.{upto-append}
use Rattle.ps_bucket_log.proofs.laws.what_is_written_later_adds_nothing.Goals as goal

pub returns : goal.returns
returns c original more op p = upto-append p op original more
