-- What is noted where a borrowed copy is put into the map.
use Rattle.std.proofs.Common.{◌≡◌, Bool, true, false, cond, Option, Some, refl, ap, ◌∙◌}
use Rattle.std.specs.Prelude.{option_map}
use Rattle.std.specs.BTreeMap.{BTreeMap, get, is_at}
use Rattle.ps_rows.specs.Source.{Key as Object, key_cmp}
use Rattle.ps_client_log.specs.declared.rows.Latest.{Latest}
use Rattle.ps_client_log.specs.Lending.{LentObject, object_at, lent_cmp, note_at, noted}

noted_cond : (b : Bool) (latest : Latest) (o : Option Latest) → option_map note_at (cond b (Some latest) o) ≡ cond b (Some (note_at latest)) (option_map note_at o)
noted_cond true latest o = refl
noted_cond false latest o = refl

-- an object as one that is borrowed, from anywhere
abbrev lent_as : Object → LentObject
lent_as object = (record { ref_ptr = (0, 0); now = object.0 }, record { ref_ptr = (0, 0); now = object.1 })

pub noted_insert : (old new : BTreeMap LentObject Latest) (own : Object) (latest : Latest)
    → ((q : LentObject) → get lent_cmp new q ≡ cond (is_at (key_cmp own) (object_at q)) (Some latest) (get lent_cmp old q))
    → (object : Object) → noted new object ≡ cond (is_at (key_cmp own) object) (Some (note_at latest)) (noted old object)
noted_insert old new own latest updates object =
    ap (option_map note_at) (updates (lent_as object)) ∙ noted_cond (is_at (key_cmp own) object) latest (get lent_cmp old (lent_as object))
