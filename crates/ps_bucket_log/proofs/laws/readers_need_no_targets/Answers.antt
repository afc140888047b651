use Rattle.ps_bucket_log.proofs.Prefixes.{needs_no_targets}
use Rattle.ps_bucket_log.proofs.laws.readers_need_no_targets.Goals as goal

pub returns : goal.returns
returns c = needs_no_targets
