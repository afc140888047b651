use Rattle.std.proofs.Common.{◌≡◌}
use Rattle.ps_bucket_log.specs.Ops.{newest}
use Rattle.log_cases.proofs.timed.fill.Given as goal

abbrev pub invariant-puts : goal.invariant-puts
invariant-puts g l = newest (g.G.Log.ops l.log) ≡ l.id
