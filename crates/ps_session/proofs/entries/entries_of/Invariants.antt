use Rattle.std.proofs.Common.{◌≡◌, map, take}
use Rattle.ps_session.specs.Takes.{entry_of}
use Rattle.ps_session.proofs.entries.entries_of.Given as goal

abbrev pub invariant-buckets : goal.invariant-buckets
invariant-buckets l = l.entries.items ≡ map entry_of (take l.bucket-index l.buckets)
