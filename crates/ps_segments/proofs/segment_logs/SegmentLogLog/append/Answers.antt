use Rattle.std.proofs.Common.{ap, subst}
use Rattle.ps_bucket_log.specs.Logs.{IsLog, LogState}
use Rattle.ps_segments.proofs.Fronts.{IsLog-push}
use Rattle.ps_segments.proofs.segment_logs.SegmentLogLog.append.Goals as goal

pub put-requires-clause-log : goal.put-requires-clause-log
put-requires-clause-log c =
    let same = ap (λ (state : LogState). state.ops) c.self.view_is in
    IsLog-push c.args.self.now.ops c.args.op (subst IsLog same c.self.invariant.segmented.log) c.requires.newer c.requires.no_clear
