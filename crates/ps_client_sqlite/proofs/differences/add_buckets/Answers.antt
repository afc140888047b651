use Rattle.std.specs.Prelude.{bytes_eq}
use Rattle.ps_client_sqlite.specs.Writing.{bucket_write}
use Rattle.ps_client_sqlite.proofs.Makings.{adds_changes}
use Rattle.ps_client_sqlite.proofs.differences.add_buckets.Goals as goal

pub returns : goal.returns
returns c =
    adds_changes bytes_eq bucket_write c.in_ok-before.before.items _ c.in_ok-bucket_rows.field-0.items _ c.in_ok-changes.changes.items _ _ c.add_bucket_writes.result
    c.in_ok-before.ensures c.in_ok-bucket_rows.ensures c.in_ok-changes.ensures c.add_bucket_writes.ensures
