-- The notes of changes, of the tables that parameter queries read.
use Rattle.std.specs.Prelude.{List, [], ◌∷◌, ◌++◌, if◌then◌else◌, Option, None}
use Rattle.ps_data.specs.declared.columns.Column.{Column}
use Rattle.ps_definitions.specs.declared.definitions.Definition.{Definition}
use Rattle.ps_params.specs.Notes.{Note}
use Rattle.ps_definitions.specs.Tables.{is_read}
use Rattle.ps_store.specs.Originals.{Timed}

-- the note of a change
abbrev pub noted : Timed → Note
noted t = record { at = t.position; table = t.change.table; id = t.change.id; row = t.change.row }

-- the row that a note is made of; none is needed where the table is not read
abbrev pub row_noted : List Definition → Timed → Option (List Column)
row_noted definitions t = if is_read definitions t.change.table then t.change.row else None

-- a note behind others, if a parameter query reads its table
abbrev pub with_note : List Definition → List Note → Note → List Note
with_note definitions notes note = if is_read definitions note.table then notes ++ note ∷ [] else notes
