use Rattle.ps_bucket_log.proofs.Histories.{same_sums}
use Rattle.ps_bucket_log.proofs.Entries.{no_clear}
use Rattle.ps_bucket_log.proofs.laws.standing_logs_have_the_sums_of_their_originals.Goals as goal

pub returns : goal.returns
returns c log original level high stands written = same_sums log original level high stands written.rising (no_clear original written.entries)
