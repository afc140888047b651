use Rattle.ps_bucket_log.proofs.Readers.{took_batch, AreWithin-level, AreWithin-target}
use Rattle.ps_bucket_log.proofs.Histories.{IsRising-stands}
use Rattle.ps_bucket_log.proofs.laws.batches_keep_readers_honest.Goals as goal

pub returns-clause-honest : goal.returns-clause-honest
returns-clause-honest c log original level op high bucket batch left stands written low within is honest =
    took_batch batch log original left level op high op bucket stands written.rising (IsRising-stands log original level written.rising stands) within is
    (AreWithin-level level op batch low) honest

pub returns-clause-honest_up_to : goal.returns-clause-honest_up_to
returns-clause-honest_up_to c log original level op high upto bucket batch left stands written within is targets honest =
    took_batch batch log original left level op high upto bucket stands written.rising (IsRising-stands log original level written.rising stands) within is
    (AreWithin-target level upto batch targets) honest
