use Rattle.std.proofs.Common.{arith}
use Rattle.ps_compact.specs.Compaction.{compacted}
use Rattle.ps_compact.proofs.laws.compacted_logs_keep_sums.Goals as goal

pub returns : goal.returns
returns c log original level later high written low within stands =
    let now = c.compacted_logs_stand.ensures log original level later written low stands in
    let clear = (c.standing_logs_stay_standing.ensures.level (compacted later log) original later 0 high written now).0 in
    c.standing_logs_have_the_sums_of_their_originals.ensures (compacted later log) original later high now written (omega (arith, clear, within))
