use Rattle.ps_bucket_log.proofs.Histories.{position-newest}
use Rattle.ps_bucket_log.proofs.Prefixes.{stays_within}
use Rattle.ps_bucket_log.proofs.laws.readers_stand_at_the_last_id.Goals as goal

pub returns-clause-place : goal.returns-clause-place
returns-clause-place c = position-newest

pub returns-clause-within : goal.returns-clause-within
returns-clause-within c = stays_within
