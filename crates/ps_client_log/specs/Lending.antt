-- The latest copies, as a map that borrows them from the buckets.
use Rattle.std.specs.Prelude.{ℕ, List, Option, option_map}
use Rattle.std.specs.BTreeMap.{BTreeMap, get_by}
use Rattle.std.specs.Borrow.{Bor}
use Rattle.std.specs.declared.cmp.Ordering.{Ordering}
use Rattle.ps_rows.specs.declared.shown.Shown.{Shown}
use Rattle.ps_rows.specs.Source.{Key as Object, key_cmp}
use Rattle.ps_client_log.specs.declared.rows.Latest.{Latest}
use Rattle.ps_client_log.specs.Seeing.{Note}

-- an object whose type and id are borrowed
abbrev pub LentObject : Type 0
LentObject = Bor (List ℕ) × Bor (List ℕ)

abbrev pub object_at : LentObject → Object
object_at lent = (lent.0.now, lent.1.now)

-- the order of such objects is that of the objects
abbrev pub lent_cmp : LentObject → LentObject → Ordering
lent_cmp a b = key_cmp (object_at a) (object_at b)

-- what is noted of a copy that is borrowed
abbrev pub note_at : Latest → Note
note_at latest = record { id = latest.entry.now.id.0; bucket = latest.bucket.now; subkey = latest.subkey.now; content = latest.entry.now.content }

-- what is noted of an object
abbrev pub noted : BTreeMap LentObject Latest → Object → Option Note
noted rows object = option_map note_at (get_by (λ lent. key_cmp object (object_at lent)) rows)

-- a row of an object
abbrev pub row_from : Object → List ℕ → Shown
row_from object content = record { kind = object.0; id = object.1; content = content }

-- the row that is noted, by its object
abbrev pub row_noted : LentObject × Latest → Object × List ℕ
row_noted pair = (object_at pair.0, (note_at pair.1).content)
