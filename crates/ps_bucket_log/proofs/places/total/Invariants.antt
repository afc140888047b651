use Rattle.std.proofs.Common.{◌≡◌, take}
use Rattle.ps_bucket_log.specs.Ops.{sum_of}
use Rattle.ps_bucket_log.proofs.places.total.Given as goal

abbrev pub invariant-ops : goal.invariant-ops
invariant-ops g l = l.total.0 ≡ sum_of (take l.op-index l.ops)
