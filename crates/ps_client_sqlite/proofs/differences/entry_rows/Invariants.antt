use Rattle.std.proofs.Common.{◌≡◌, take}
use Rattle.ps_client_sqlite.specs.Writing.{entry_pairs}
use Rattle.ps_client_sqlite.proofs.differences.entry_rows.Given as goal

abbrev pub invariant-buckets : goal.invariant-buckets
invariant-buckets l = l.rows.items ≡ entry_pairs (take l.bucket-index l.buckets)
