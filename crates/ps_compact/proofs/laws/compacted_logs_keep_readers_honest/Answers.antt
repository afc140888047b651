use Rattle.std.proofs.Common.{fold}
use Rattle.ps_bucket_log.specs.Buckets.{after}
use Rattle.ps_compact.specs.Compaction.{compacted}
use Rattle.ps_compact.proofs.laws.compacted_logs_keep_readers_honest.Goals as goal

pub returns-clause-honest : goal.returns-clause-honest
returns-clause-honest c log original level later op high bucket batch left written low stands reached within is honest =
    let now = c.compacted_logs_stand.ensures log original level later written low stands in
    c.batches_keep_readers_honest.ensures.honest (compacted later log) original later op high bucket batch left now written reached within is honest

pub returns-clause-honest_up_to : goal.returns-clause-honest_up_to
returns-clause-honest_up_to c log original level later op high upto bucket batch left written low stands within is targets honest =
    let now = c.compacted_logs_stand.ensures log original level later written low stands in
    c.batches_keep_readers_honest.ensures.honest_up_to (compacted later log) original later op high upto bucket batch left now written within is targets honest

pub returns-clause-whole : goal.returns-clause-whole
returns-clause-whole c log original level later op high upto bucket batch left written low stands within is targets newest_in reached honest =
    let now = c.compacted_logs_stand.ensures log original level later written low stands in
    let then = c.batches_keep_readers_honest.ensures.honest_up_to (compacted later log) original later op high upto bucket batch left now written within is targets honest in
    c.readers_are_whole_at_the_newest.ensures original op upto (fold after bucket batch) written newest_in reached then
