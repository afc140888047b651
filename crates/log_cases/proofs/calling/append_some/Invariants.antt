use Rattle.std.proofs.Common.{◌≡◌, ◌+◌, ◌≤◌}
use Rattle.ps_bucket_log.specs.Ops.{newest}
use Rattle.log_cases.proofs.calling.append_some.Given as goal

-- there is room for what is left
abbrev pub invariant-ops : goal.invariant-ops
invariant-ops g l = record {
  last : newest (g.G.Log.ops l.log) ≡ l.last;
  room : l.fn.count ≤ g.G.Log.spare l.log + l.place;
}
