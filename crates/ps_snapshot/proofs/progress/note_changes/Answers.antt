use Rattle.std.proofs.Common.{◌≡◌, ap, ◌∙◌}
use Rattle.std.specs.BTreeMap.{get}
use Rattle.ps_rows.specs.Source.{Key, key_cmp}
use Rattle.ps_snapshot.specs.Progress.{kept_position, changed_in}
use Rattle.ps_snapshot.proofs.Looking.{changed_step}
use Rattle.ps_snapshot.proofs.progress.note_changes.Goals as goal

pub changes-preserved : goal.changes-preserved
changes-preserved c = λ key.
    let k : Key = (c.in_ok-copy.field-0, c.in_ok-copy-2.field-0) in
    let same : k ≡ (c.change-item.result.table, c.change-item.result.id) =
    ap (λ table. (table, c.in_ok-copy-2.field-0)) c.in_ok-copy.ensures ∙ ap (λ id. (c.change-item.result.table, id)) c.in_ok-copy-2.ensures in
    ap kept_position (c.in_ok-insert.ensures.updates.0 key)
    ∙ changed_step c.as_slice-change-items.result.now c.changes.change-index c.change-item.result key k c.args.transaction.now.position (changed_in c.args.changed.now key)
    (get key_cmp c.changes.changed key) c.changes-test.true c.change-item.is same (c.changes.invariant key)
