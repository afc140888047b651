use Rattle.std.proofs.Common.{◌≡◌, map, take}
use Rattle.ps_client_sqlite.specs.Writing.{bucket_pair}
use Rattle.ps_client_sqlite.proofs.differences.bucket_rows.Given as goal

abbrev pub invariant-buckets : goal.invariant-buckets
invariant-buckets l = l.rows.items ≡ map bucket_pair (take l.bucket-index l.buckets)
