use Rattle.ps_bucket_log.proofs.Prefixes.{rises_on}
use Rattle.ps_bucket_log.proofs.laws.rising_ids_rise_on.Goals as goal

pub returns : goal.returns
returns c = rises_on
