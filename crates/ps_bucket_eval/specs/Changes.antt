-- What a change makes of its row.
use Rattle.std.specs.Prelude.{◌≡◌, ℕ, ◌+◌, ◌<◌, ◌≤◌, List, [], length, Option, Some, None, Result, Ok, Err}
use Rattle.ps_data.specs.declared.columns.Column.{Column}
use Rattle.ps_rows.specs.declared.changes.Change.{Change}
use Rattle.ps_rows.specs.Source.{Key}
use Rattle.ps_definitions.specs.declared.definitions.Definition.{Definition}
use Rattle.ps_bucket_eval.specs.declared.changes.ChangeEntries.{ChangeEntries}
use Rattle.ps_bucket_eval.specs.declared.faults.PlaceFault.{PlaceFault}
use Rattle.ps_bucket_eval.specs.declared.faults.PlaceFault.TheVariants.{TooWide, Memory}
use Rattle.ps_bucket_eval.specs.declared.placed.Placed.{Placed}
use Rattle.ps_queries.specs.Vectors.{SourceRow}
use Rattle.ps_bucket_eval.specs.Entries.{entries_of}

abbrev pub row_of_key : Key → List Column → SourceRow
row_of_key key columns = record { table = key.0; id = key.1; row = columns }

-- the entries of the row of a key, where it is there
abbrev pub entries_at : List Definition → Key → Option (List Column) → List Placed
entries_at definitions key None = []
entries_at definitions key (Some columns) = entries_of definitions (row_of_key key columns)

abbrev pub key_of_change : Change → Key
key_of_change change = (change.table, change.id)

-- the entries of the row before and after a change, those after it at most `top`; else that they are more, counted no further than one past it
abbrev pub IsChangeOf : List Definition → Change → Option (List Column) → ℕ → Result ChangeEntries PlaceFault → Type 0
IsChangeOf definitions change before top (Ok entries) =
    (entries.before ≡ entries_at definitions (key_of_change change) before)
    × (entries.after ≡ entries_at definitions (key_of_change change) change.row) × (length entries.after ≤ top)
IsChangeOf definitions change before top (Err (TooWide count)) =
    (top < length (entries_at definitions (key_of_change change) change.row)) × (count ≡ top + 1)
IsChangeOf definitions change before top (Err Memory) = Unit {0}
