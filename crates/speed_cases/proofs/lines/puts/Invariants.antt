use Rattle.std.proofs.Common.{◌≡◌}
use Rattle.ps_bucket_log.specs.Ops.{newest}
use Rattle.ps_bucket_log.specs.Logs.{IsRising}
use Rattle.speed_cases.proofs.lines.puts.Given as goal

abbrev pub invariant-ops : goal.invariant-ops
invariant-ops l = IsRising 0 l.ops.items × (newest l.ops.items ≡ l.before)
