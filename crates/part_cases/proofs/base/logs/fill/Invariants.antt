use Rattle.std.proofs.Common.{◌≡◌}
use Rattle.ps_bucket_log.specs.Ops.{newest}
use Rattle.part_cases.proofs.base.logs.fill.Given as goal

abbrev pub invariant-puts : goal.invariant-puts
invariant-puts g l = newest (g.L.Log.ops l.log) ≡ l.id
