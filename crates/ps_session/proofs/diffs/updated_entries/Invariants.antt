use Rattle.std.proofs.Common.{◌≡◌, ◌++◌, drop}
use Rattle.ps_session.proofs.Changes.{entries_of}
use Rattle.ps_session.proofs.diffs.updated_entries.Given as goal

abbrev pub invariant-buckets : goal.invariant-buckets
invariant-buckets l = l.entries.items ++ entries_of l.old (drop l.place l.new) ≡ entries_of l.old l.new
