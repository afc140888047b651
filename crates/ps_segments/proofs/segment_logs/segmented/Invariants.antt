use Rattle.std.proofs.Common.{◌≡◌, ◌++◌}
use Rattle.std.specs.Vec.Iter.{into_iter_items}
use Rattle.ps_segments.proofs.segment_logs.segmented.Given as goal

abbrev pub invariant-ops : goal.invariant-ops
invariant-ops l = l.log.ops ++ into_iter_items l.op-iterator ≡ l.fn.ops
