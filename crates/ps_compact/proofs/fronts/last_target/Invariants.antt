use Rattle.std.proofs.Common.{◌≡◌, drop}
use Rattle.ps_bucket_log.specs.Ops.{greatest_target}
use Rattle.ps_compact.proofs.fronts.last_target.Given as goal

-- of those behind the place
abbrev pub invariant-places : goal.invariant-places
invariant-places l = l.greatest ≡ greatest_target (drop l.place l.ops)
