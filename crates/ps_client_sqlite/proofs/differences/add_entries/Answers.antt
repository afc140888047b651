use Rattle.ps_client_sqlite.specs.Writing.{place_eq, entry_write}
use Rattle.ps_client_sqlite.proofs.Makings.{adds_changes}
use Rattle.ps_client_sqlite.proofs.differences.add_entries.Goals as goal

pub returns : goal.returns
returns c =
    adds_changes place_eq entry_write c.in_ok-before.before.items _ c.in_ok-entry_rows.field-0.items _ c.in_ok-changes.changes.items _ _ c.add_entry_writes.result
    c.in_ok-before.ensures c.in_ok-entry_rows.ensures c.in_ok-changes.ensures c.add_entry_writes.ensures
