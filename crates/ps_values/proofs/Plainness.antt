-- Plain JSON stays as it is, and nests as deep as before.
use Rattle.std.proofs.Common.{◌≡◌, ℕ, suc, Bool, true, false, refl, sym, ap, ◌∙◌, cond, ◌^◌}
use Rattle.std.specs.Prelude.{nat_lt}
use Rattle.serde_json.specs.Data.{Num, unsigned, negative, float, Data, null, boolean, number, string, array, object, Items, no_items, item, Members, no_members, member, depth, items_depth, members_depth}
use Rattle.serde_json.specs.Written.{has_float}
use Rattle.ps_data.specs.Conversions.{plain_number, plain_of, plain_items, plain_members}
use Rattle.ps_values.proofs.Faults.{plain_floatless}

whole_or_null : (b : Bool) (n : ℕ) → nat_lt n (2 ^ 63) ≡ b → plain_of (cond b (number (unsigned n)) null) ≡ cond b (number (unsigned n)) null
whole_or_null true n h = rw h refl
whole_or_null false n h = refl

number_stays : (n : Num) → plain_of (plain_number n) ≡ plain_number n
number_stays (unsigned n) = whole_or_null (nat_lt n (2 ^ 63)) n refl
number_stays (negative z) = refl
number_stays (float x) = refl

mutual
  pub plain_stays : (d : Data) → plain_of (plain_of d) ≡ plain_of d
  plain_stays null = refl
  plain_stays (boolean truth) = refl
  plain_stays (number n) = number_stays n
  plain_stays (string text) = refl
  plain_stays (array ds) = ap array (items_stay ds)
  plain_stays (object ms) = ap object (members_stay ms)

  items_stay : (ds : Items) → plain_items (plain_items ds) ≡ plain_items ds
  items_stay no_items = refl
  items_stay (item d ds) = rw (plain_stays d, items_stay ds) refl

  members_stay : (ms : Members) → plain_members (plain_members ms) ≡ plain_members ms
  members_stay no_members = refl
  members_stay (member name d ms) = rw (plain_stays d, members_stay ms) refl

flat_or_null : (b : Bool) (n : ℕ) → depth (cond b (number (unsigned n)) null) ≡ 0
flat_or_null true n = refl
flat_or_null false n = refl

number_nests : (n : Num) → depth (plain_number n) ≡ 0
number_nests (unsigned n) = flat_or_null (nat_lt n (2 ^ 63)) n
number_nests (negative z) = refl
number_nests (float x) = refl

mutual
  pub plain_nests : (d : Data) → depth (plain_of d) ≡ depth d
  plain_nests null = refl
  plain_nests (boolean truth) = refl
  plain_nests (number n) = number_nests n
  plain_nests (string text) = refl
  plain_nests (array ds) = ap suc (items_nest ds)
  plain_nests (object ms) = ap suc (members_nest ms)

  items_nest : (ds : Items) → items_depth (plain_items ds) ≡ items_depth ds
  items_nest no_items = refl
  items_nest (item d ds) = rw (plain_nests d, items_nest ds) refl

  members_nest : (ms : Members) → members_depth (plain_members ms) ≡ members_depth ms
  members_nest no_members = refl
  members_nest (member name d ms) = rw (plain_nests d, members_nest ms) refl

-- what was made plain is so
pub made_floatless : (made d : Data) → made ≡ plain_of d → has_float made ≡ false
made_floatless made d e = ap has_float e ∙ plain_floatless d

pub made_nests : (made d : Data) → made ≡ plain_of d → depth made ≡ depth d
made_nests made d e = ap depth e ∙ plain_nests d

pub made_stays : (made d : Data) → made ≡ plain_of d → plain_of made ≡ made
made_stays made d e = rw e (plain_stays d)

pub floatless_where_plain : (d : Data) → plain_of d ≡ d → has_float d ≡ false
floatless_where_plain d e = ap has_float (sym e) ∙ plain_floatless d
