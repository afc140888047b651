use Rattle.std.proofs.Common.{◌≡◌, take}
use Rattle.ps_bucket_log.specs.Logs.{IsRising}
use Rattle.part_cases.proofs.Rising.{last_of}
use Rattle.part_cases.proofs.base.clients.can_take.Given as goal

abbrev pub invariant-ops : goal.invariant-ops
invariant-ops l = IsRising l.fn.position.0 (take l.op-index l.ops) × (last_of l.fn.position.0 (take l.op-index l.ops) ≡ l.last)
