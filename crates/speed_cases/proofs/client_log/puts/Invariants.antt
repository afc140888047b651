use Rattle.std.proofs.Common.{◌≡◌, ◌+◌}
use Rattle.ps_bucket_log.specs.Ops.{place_after}
use Rattle.ps_bucket_log.specs.Logs.{IsRising}
use Rattle.speed_cases.proofs.client_log.puts.Given as goal

abbrev pub invariant-ops : goal.invariant-ops
invariant-ops l = IsRising l.after l.ops.items × (place_after l.after l.ops.items ≡ l.after + l.before)
