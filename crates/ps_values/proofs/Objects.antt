-- Bytes that hold JSON, and the members of an object as columns go in.
use Rattle.std.proofs.Common.{◌≡◌, ℕ, suc, ◌+◌, ◌<◌, Bool, true, false, List, ◌∷◌, Some, None, String, string_bytes, string_cmp, length, get_or, drop, cond, refl, sym, ap, ◌∙◌, add-one}
use Rattle.std.proofs.Math.Seq.{drop-cons}
use Rattle.std.specs.Str.{is_utf8, IsUtf8}
use Rattle.std.proofs.lemmas.Str.{IsUtf8-from_is_utf8, is_utf8-from_IsUtf8}
use Rattle.std.specs.BTreeMap.{insert_entry}
use Rattle.std.specs.declared.alloc.Global.{Global}
use Rattle.serde_json.specs.Data.{Data, Members, put}
use Rattle.serde_json.specs.Read.{read}
use Rattle.serde_json.specs.View.{view, members_view}
use Rattle.serde_json.specs.declared.value.Value.{Value as Json}
use Rattle.serde_json.proofs.Views.{members_view-insert_entry}
use Rattle.ps_data.specs.declared.columns.Column.{Column}
use Rattle.ps_data.specs.Documents.{json_of, data_of, with_columns}

pub json_some : (bs : List ℕ) (d : Data) → IsUtf8 bs → read bs ≡ Some d → Some d ≡ json_of bs
json_some bs d utf8 h = rw (is_utf8-from_IsUtf8 bs utf8) (sym h)

none_by : (bs : List ℕ) (b : Bool) → is_utf8 bs ≡ b → (IsUtf8 bs → read bs ≡ None) → None ≡ cond b (read bs) None
none_by bs true e h = sym (h (IsUtf8-from_is_utf8 bs e))
none_by bs false e h = refl

-- bytes that are no text hold none
pub json_no_text : (bs : List ℕ) → ¬ (IsUtf8 bs) → None ≡ json_of bs
json_no_text bs not_text = none_by bs (is_utf8 bs) refl (λ is. absurd (not_text is))

pub json_none : (bs : List ℕ) → (IsUtf8 bs → read bs ≡ None) → None ≡ json_of bs
json_none bs h = none_by bs (is_utf8 bs) refl h

-- a value more
pub put_more : (es fs : List (String Global × Json)) (k : String Global) (v : Json) → fs ≡ insert_entry string_cmp es k v → members_view fs ≡ put (string_bytes k) (view v) (members_view es)
put_more es fs k v h = ap members_view h ∙ members_view-insert_entry es k v

-- one column more
pub column_more : (ms : Members) (columns : List Column) (i : ℕ) (column : Column) → i < length columns → column ≡ get_or columns i column
    → with_columns (put column.name (data_of column.value) ms) (drop (i + 1) columns) ≡ with_columns ms (drop i columns)
column_more ms columns i column h is =
    rw add-one (sym (ap (with_columns ms) (drop-cons columns i column h) ∙ ap (λ c. with_columns ms (c ∷ drop (suc i) columns)) (sym is)))
