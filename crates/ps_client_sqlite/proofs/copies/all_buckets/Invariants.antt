use Rattle.std.proofs.Common.{◌≡◌, take}
use Rattle.ps_client_sqlite.proofs.copies.all_buckets.Given as goal

abbrev pub invariant-buckets : goal.invariant-buckets
invariant-buckets l = l.copies ≡ take l.one-index l.buckets
