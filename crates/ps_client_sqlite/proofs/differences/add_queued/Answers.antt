use Rattle.std.specs.Ordering.{int_eq}
use Rattle.ps_client_sqlite.specs.Writing.{queued_write}
use Rattle.ps_client_sqlite.proofs.Makings.{adds_changes}
use Rattle.ps_client_sqlite.proofs.differences.add_queued.Goals as goal

pub returns : goal.returns
returns c =
    adds_changes int_eq queued_write c.in_ok-before.before.items _ c.in_ok-queued_rows.field-0.items _ c.in_ok-changes.changes.items _ _ c.add_queued_writes.result
    c.in_ok-before.ensures c.in_ok-queued_rows.ensures c.in_ok-changes.ensures c.add_queued_writes.ensures
