use Rattle.std.proofs.Common.{ap, ◌∙◌}
use Rattle.ps_rows.specs.declared.changes.Change.{Change}
use Rattle.ps_params.specs.Notes.{Note}
use Rattle.ps_store.proofs.Advancing.{noted_by}
use Rattle.ps_store.proofs.tails.advance_one.Goals as goal

pub returns-clause-index_notes : goal.returns-clause-index_notes
returns-clause-index_notes c =
    let change : Change = c.into_change-table.result in
    let note : Note = record { at = c.position-position.result.0; table = change.table; id = change.id; row = c.args.row } in
    c.note_row.ensures.notes
    ∙ noted_by c.args.index.now.rules.definitions c.args.index.now.notes c.args.waiting note c.position-position.ensures (ap (λ (x : Change). x.table) c.into_change-table.ensures)
    (ap (λ (x : Change). x.id) c.into_change-table.ensures) c.requires.row_is
