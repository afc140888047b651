use Rattle.ps_client_sqlite.specs.Writing.{object_eq, shown_write}
use Rattle.ps_client_sqlite.proofs.Makings.{adds_changes}
use Rattle.ps_client_sqlite.proofs.differences.add_shown.Goals as goal

pub returns : goal.returns
returns c =
    adds_changes object_eq shown_write c.in_ok-before.before.items _ c.in_ok-shown_rows.field-0.items _ c.in_ok-changes.changes.items _ _ c.add_shown_writes.result
    c.in_ok-before.ensures c.in_ok-shown_rows.ensures c.in_ok-changes.ensures c.add_shown_writes.ensures
