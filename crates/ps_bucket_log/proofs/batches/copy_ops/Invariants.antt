use Rattle.std.proofs.Common.{◌≡◌, take}
use Rattle.ps_bucket_log.proofs.batches.copy_ops.Given as goal

abbrev pub invariant-ops : goal.invariant-ops
invariant-ops g l = l.copy ≡ take l.op-index l.ops
