use Rattle.ps_bucket_log.proofs.Histories.{whole_at_newest}
use Rattle.ps_bucket_log.proofs.laws.readers_are_whole_at_the_newest.Goals as goal

pub returns : goal.returns
returns c original op upto bucket written = whole_at_newest original op upto bucket written.rising
