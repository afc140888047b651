-- Rows by their objects, as a map that borrows them.
use Rattle.std.specs.Prelude.{ℕ, List, Option, option_map}
use Rattle.std.specs.BTreeMap.{BTreeMap, get_by}
use Rattle.std.specs.Borrow.{Bor}
use Rattle.ps_rows.specs.Source.{Key as Object, key_cmp}
use Rattle.ps_client_log.specs.Lending.{LentObject, object_at}

-- the data that stands at an object
abbrev pub content_at : BTreeMap LentObject (Bor (List ℕ)) → Object → Option (List ℕ)
content_at index object = option_map (λ content. content.now) (get_by (λ lent. key_cmp object (object_at lent)) index)

-- an entry's object and data
abbrev pub row_at_entry : LentObject × Bor (List ℕ) → Object × List ℕ
row_at_entry pair = (object_at pair.0, pair.1.now)
