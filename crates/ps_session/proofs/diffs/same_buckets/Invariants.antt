use Rattle.std.proofs.Common.{◌≡◌, drop}
use Rattle.ps_session.specs.Takes.{same_buckets}
use Rattle.ps_session.proofs.diffs.same_buckets.Given as goal

abbrev pub invariant-buckets : goal.invariant-buckets
invariant-buckets l = same_buckets l.old l.new ≡ same_buckets (drop l.place l.old) (drop l.place l.new)
