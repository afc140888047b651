-- Notes and rows, change by change.
use Rattle.std.proofs.Common.{◌≡◌, ℕ, Bool, true, false, cond, List, [], ◌∷◌, ◌++◌, Option, Some, None, option_map, refl, sym, ap, ◌∙◌}
use Rattle.std.specs.Prelude.{if◌then◌else◌}
use Rattle.std.specs.FinMap.Entries.{find}
use Rattle.std.specs.Ordering.{eq_by_cmp}
use Rattle.ps_data.specs.declared.columns.Column.{Column}
use Rattle.ps_rows.specs.Source.{key_cmp, Key, Source, Version}
use Rattle.ps_rows.specs.Keys.{find-after_row}
use Rattle.ps_definitions.specs.declared.definitions.Definition.{Definition}
use Rattle.ps_params.specs.Notes.{Note, counts_for, row_after, SameFrom}
use Rattle.ps_definitions.specs.Tables.{is_read}
use Rattle.ps_store.specs.Noting.{with_note}
use Rattle.ps_store.specs.Originals.{Timed, key_of, after, columns_of}

-- ---- notes

pub after_more : (table id : List ℕ) (upto : ℕ) (row : Option (List Column)) (notes : List Note) (note : Note)
    → row_after table id upto row (notes ++ note ∷ []) ≡ (if counts_for table id upto note then note.row else row_after table id upto row notes)
after_more table id upto row [] note = refl
after_more table id upto row (x ∷ notes) note = after_more table id upto (if counts_for table id upto x then x.row else row) notes note

same_more : (floor : ℕ) (a b : List Note) (note : Note) → SameFrom floor a b → SameFrom floor (a ++ note ∷ []) (b ++ note ∷ [])
same_more floor a b note h = λ table id position past.
    after_more table id position None a note
    ∙ ap (λ row. if counts_for table id position note then note.row else row) (h table id position past)
    ∙ sym (after_more table id position None b note)

-- one note more leaves all rows the same
pub same_with : (floor : ℕ) (definitions : List Definition) (a b : List Note) (note : Note) → SameFrom floor a b → SameFrom floor (with_note definitions a note) (with_note definitions b note)
same_with floor definitions a b note h = go (is_read definitions note.table)
  where
    go : (read : Bool) → SameFrom floor (if read then a ++ note ∷ [] else a) (if read then b ++ note ∷ [] else b)
    go true = same_more floor a b note h
    go false = h

-- ---- rows

columns_there : (position index : ℕ) (row : Option (List Column)) → columns_of (option_map (λ columns. record { columns = columns; position = position; index = index }) row) ≡ row
columns_there position index (Some columns) = refl
columns_there position index None = refl

columns_by : (b : Bool) (x y : Option Version) → columns_of (cond b x y) ≡ cond b (columns_of x) (columns_of y)
columns_by true x y = refl
columns_by false x y = refl

-- the columns at a key after a change
pub columns_after : (source : Source) (t : Timed) (key : Key) → columns_of (find key_cmp key (after source t)) ≡ cond (eq_by_cmp key_cmp key (key_of t)) t.change.row (columns_of (find key_cmp key source))
columns_after source t key =
    let version : Option Version = option_map (λ columns. record { columns = columns; position = t.position; index = t.index }) t.change.row in
    ap columns_of (find-after_row t.position t.index (key_of t) t.change.row source key)
    ∙ columns_by (eq_by_cmp key_cmp key (key_of t)) version (find key_cmp key source)
    ∙ ap (λ row. cond (eq_by_cmp key_cmp key (key_of t)) row (columns_of (find key_cmp key source))) (columns_there t.position t.index t.change.row)
