use Rattle.std.proofs.Common.{◌≡◌, false, take}
use Rattle.ps_bucket_log.specs.Ops.{has_clear}
use Rattle.part_cases.proofs.compaction.logs.has_clear_among.Given as goal

abbrev pub invariant-ops : goal.invariant-ops
invariant-ops l = has_clear (take l.op-index l.ops) ≡ false
