use Rattle.ps_bucket_log.proofs.Histories.{fresh_is_honest, honest_later}
use Rattle.ps_bucket_log.proofs.Prefixes.{honest_alike}
use Rattle.ps_bucket_log.proofs.laws.honest_readers_stay_honest.Goals as goal

pub returns-clause-afresh : goal.returns-clause-afresh
returns-clause-afresh c original op upto written = fresh_is_honest original op upto written.rising

pub returns-clause-later : goal.returns-clause-later
returns-clause-later c original more op upto later_op later_upto bucket written =
    honest_later original more op upto later_op later_upto bucket written.rising

pub returns-clause-alike : goal.returns-clause-alike
returns-clause-alike c = honest_alike
