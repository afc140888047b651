use Rattle.std.proofs.Common.{◌≡◌, ◌++◌, drop}
use Rattle.ps_session.specs.Takes.{removed}
use Rattle.ps_session.proofs.diffs.removed_names.Given as goal

abbrev pub invariant-buckets : goal.invariant-buckets
invariant-buckets l = l.names.items ++ removed (drop l.place l.old) l.fn.new ≡ removed l.old l.fn.new
