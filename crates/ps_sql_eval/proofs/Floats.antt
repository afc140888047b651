-- What is in JSON that has no float has none.
use Rattle.std.proofs.Common.{◌≡◌, ℕ, zero, suc, Bool, true, false, List, refl}
use Rattle.std.specs.Prelude.{◌||◌, Option, Some, None, pos, negsuc}
use Rattle.std.specs.Ordering.{nat_cmp, match_ordering}
use Rattle.std.specs.declared.cmp.Ordering.{Ordering}
use Rattle.std.specs.declared.cmp.Ordering.TheVariants.{Less, Equal, Greater}
use Rattle.std.specs.Cmp.Lexicographic.{slice_cmp}
use Rattle.serde_json.specs.Data.{Data, null, boolean, number, string, array, object, Items, no_items, item, Members, no_members, member}
use Rattle.serde_json.specs.Find.{get, at, get_member, get_item}
use Rattle.serde_json.specs.Written.{has_float, items_have_float, members_have_float}
use Rattle.ps_data.specs.declared.values.Value.{Value}
use Rattle.ps_data.specs.declared.values.Value.TheVariants.{Null, Int, Text}
use Rattle.ps_queries.specs.Meaning.{member_at}

pub left : (a b : Bool) → (a || b) ≡ false → a ≡ false
left false b h = refl
left true b h = h

pub right : (a b : Bool) → (a || b) ≡ false → b ≡ false
right false b h = h
right true b h = absurd (cc)

-- what is there has no float
abbrev pub IsFloatless : Option Data → Type 0
IsFloatless None = Unit {0}
IsFloatless (Some d) = has_float d ≡ false

by_order : (o : Ordering) (a b c : Option Data) → IsFloatless a → IsFloatless b → IsFloatless c → IsFloatless (match_ordering o a b c)
by_order Less a b c p q r = p
by_order Equal a b c p q r = q
by_order Greater a b c p q r = r

member_floatless : (name : List ℕ) (ms : Members) → members_have_float ms ≡ false → IsFloatless (get_member name ms)
member_floatless name no_members h = tt
member_floatless name (member l e ms) h =
    let rest = member_floatless name ms (right (has_float e) (members_have_float ms) h) in
    by_order (slice_cmp nat_cmp name l) (get_member name ms) (Some e) (get_member name ms) rest (left (has_float e) (members_have_float ms) h) rest

item_floatless : (n : ℕ) (ds : Items) → items_have_float ds ≡ false → IsFloatless (get_item n ds)
item_floatless n no_items h = tt
item_floatless zero (item d ds) h = left (has_float d) (items_have_float ds) h
item_floatless (suc n) (item d ds) h = item_floatless n ds (right (has_float d) (items_have_float ds) h)

get_floatless : (name : List ℕ) (d : Data) → has_float d ≡ false → IsFloatless (get name d)
get_floatless name null h = tt
get_floatless name (boolean b) h = tt
get_floatless name (number n) h = tt
get_floatless name (string s) h = tt
get_floatless name (array ds) h = tt
get_floatless name (object ms) h = member_floatless name ms h

at_floatless : (n : ℕ) (d : Data) → has_float d ≡ false → IsFloatless (at n d)
at_floatless n null h = tt
at_floatless n (boolean b) h = tt
at_floatless n (number m) h = tt
at_floatless n (string s) h = tt
at_floatless n (array ds) h = item_floatless n ds h
at_floatless n (object ms) h = tt

pub found_floatless : (key : Value) (d : Data) → has_float d ≡ false → IsFloatless (member_at key d)
found_floatless Null d h = tt
found_floatless (Int (pos n)) d h = at_floatless n d h
found_floatless (Int (negsuc n)) d h = tt
found_floatless (Text name) d h = get_floatless name d h
