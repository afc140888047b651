-- The source: the map from a row's table and id to its columns and the moment of its last change,
-- as the list of its entries in the order of table and id.
use Rattle.std.specs.Prelude.{ℕ, ◌+◌, List, [], ◌∷◌, not, nat_le, filter, Option, Some, None}
use Rattle.std.specs.Ordering.{nat_cmp, ordering_then, eq_by_cmp}
use Rattle.std.specs.Cmp.Lexicographic.{slice_cmp}
use Rattle.std.specs.FinMap.Entries.{put, where_key}
use Rattle.std.specs.declared.cmp.Ordering.{Ordering}
use Rattle.ps_data.specs.declared.columns.Column.{Column}
use Rattle.ps_rows.specs.declared.changes.Change.{Change}
use Rattle.ps_rows.specs.declared.changes.Transaction.{Transaction}

-- a table and an id, or an object's type and its id
abbrev pub Key : Type 0
Key = List ℕ × List ℕ

-- by the first, and then by the second
abbrev pub key_cmp : Key → Key → Ordering
key_cmp a b = ordering_then (slice_cmp nat_cmp a.0 b.0) (slice_cmp nat_cmp a.1 b.1)

-- a row as a change left it: its columns, and the moment of that change, which is its place in the transaction at a position
pub record Version : Type 0 where
  pub columns : List Column
  pub position : ℕ
  pub index : ℕ

abbrev pub Source : Type 0
Source = List (Key × Version)

-- the source after a change of the row with that key: a PUT puts the row in its place, a DELETE takes it out
abbrev pub after_row : ℕ → ℕ → Key → Option (List Column) → Source → Source
after_row position index key (Some columns) source = put key_cmp key (record { columns = columns; position = position; index = index }) source
after_row position index key None source = where_key key_cmp (λ other. not (eq_by_cmp key_cmp key other)) source

-- the source after a transaction's changes, from the place `index` on
abbrev pub after_changes : ℕ → ℕ → List Change → Source → Source
after_changes position index [] source = source
after_changes position index (change ∷ changes) source =
    after_changes position (index + 1) changes (after_row position index (change.table, change.id) change.row source)

abbrev pub after_transactions : List Transaction → Source → Source
after_transactions [] source = source
after_transactions (transaction ∷ transactions) source =
    after_transactions transactions (after_changes transaction.position.0 0 transaction.changes source)

-- the source at a position: all changes of the transactions up to it, in order
abbrev pub source_at : List Transaction → ℕ → Source
source_at transactions position = after_transactions (filter (λ transaction. nat_le transaction.position.0 position) transactions) []
