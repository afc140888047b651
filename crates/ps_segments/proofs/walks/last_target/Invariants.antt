use Rattle.std.proofs.Common.{◌≡◌, take}
use Rattle.ps_bucket_log.specs.Ops.{greatest_target}
use Rattle.ps_segments.proofs.walks.last_target.Given as goal

abbrev pub invariant-ops : goal.invariant-ops
invariant-ops l = l.greatest ≡ greatest_target (take l.op-index l.ops)
