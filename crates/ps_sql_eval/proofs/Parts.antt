-- Members and elements of the JSON in a value's text.
use Rattle.std.proofs.Common.{◌≡◌, false, refl, sym, ap, ◌∙◌, subst}
use Rattle.std.specs.Prelude.{Some, None, option_and_then}
use Rattle.serde_json.specs.Data.{Data, null, boolean, number, string, array, object, Items}
use Rattle.serde_json.specs.Find.{as_array}
use Rattle.serde_json.specs.Written.{has_float, items_have_float}
use Rattle.ps_data.specs.declared.values.Value.{Value}
use Rattle.ps_data.specs.declared.values.Value.TheVariants.{Null, Int, Text}
use Rattle.ps_queries.specs.Meaning.{member_at, member_of, array_of}
use Rattle.ps_sql_eval.specs.Evaluated.{json_in}
use Rattle.ps_sql_eval.proofs.Floats.{IsFloatless, found_floatless}

member_by : (of key : Value) → member_of of key ≡ option_and_then (member_at key) (json_in of)
member_by Null key = refl
member_by (Int n) key = refl
member_by (Text t) key = refl

array_by : (of : Value) → array_of of ≡ option_and_then as_array (json_in of)
array_by Null = refl
array_by (Int n) = refl
array_by (Text t) = refl

pub member_in : (of key : Value) (d : Data) → Some d ≡ json_in of → member_at key d ≡ member_of of key
member_in of key d e = ap (option_and_then (member_at key)) e ∙ sym (member_by of key)

pub no_member_in : (of key : Value) → None ≡ json_in of → None ≡ member_of of key
no_member_in of key e = ap (option_and_then (member_at key)) e ∙ sym (member_by of key)

pub array_in : (of : Value) (d : Data) → Some d ≡ json_in of → as_array d ≡ array_of of
array_in of d e = ap (option_and_then as_array) e ∙ sym (array_by of)

pub no_array_in : (of : Value) → None ≡ json_in of → None ≡ array_of of
no_array_in of e = ap (option_and_then as_array) e ∙ sym (array_by of)

pub items_floatless : (d : Data) (ds : Items) → Some ds ≡ as_array d → has_float d ≡ false → items_have_float ds ≡ false
items_floatless null ds e h = absurd (cc)
items_floatless (boolean b) ds e h = absurd (cc)
items_floatless (number n) ds e h = absurd (cc)
items_floatless (string s) ds e h = absurd (cc)
items_floatless (array es) ds e h = let same : ds ≡ es = cc in ap items_have_float same ∙ h
items_floatless (object ms) ds e h = absurd (cc)

pub member_floatless : (key : Value) (d e : Data) → Some e ≡ member_at key d → has_float d ≡ false → has_float e ≡ false
member_floatless key d e is h = subst IsFloatless (sym is) (found_floatless key d h)
