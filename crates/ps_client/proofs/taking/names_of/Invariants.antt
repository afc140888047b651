use Rattle.std.proofs.Common.{◌≡◌, take}
use Rattle.ps_client.specs.Tables.{names_of}
use Rattle.ps_client.proofs.taking.names_of.Given as goal

abbrev pub invariant-buckets : goal.invariant-buckets
invariant-buckets l = l.names.items ≡ names_of (take l.differing-index l.buckets)
