-- Parameters that are read are compact texts of plain objects, which are read again.
use Rattle.std.proofs.Common.{◌≡◌, ℕ, max, ◌<◌, ◌≤◌, Bool, true, false, cond, List, Option, Some, None, refl, sym, ap, ◌∙◌, codes, arith, nat_cmp}
use Rattle.std.specs.Ordering.{match_ordering}
use Rattle.std.specs.declared.cmp.Ordering.{Ordering}
use Rattle.std.specs.declared.cmp.Ordering.TheVariants.{Less, Equal, Greater}
use Rattle.std.specs.Cmp.Lexicographic.{slice_cmp}
use Rattle.std.specs.Option.{IsSome}
use Rattle.std.specs.Str.{is_utf8, IsUtf8}
use Rattle.std.proofs.lemmas.Str.{is_utf8-from_IsUtf8}
use Rattle.serde_json.specs.Data.{Data as Json, null, boolean, number, string, array, object, Members, no_members, member, depth, members_depth}
use Rattle.serde_json.specs.Find.{get, get_member, as_object}
use Rattle.serde_json.specs.Read.{read, max_depth}
use Rattle.serde_json.specs.Written.{has_float, compact_text}
use Rattle.serde_json.proofs.Nesting.{depth-read}
use Rattle.serde_json.proofs.OnLiterals.{serde_json_on_literals}
use Rattle.ps_data.specs.Documents.{json_of}
use Rattle.ps_data.specs.Conversions.{plain_of, plain_members}
use Rattle.ps_lines.specs.Bodies.{IsParameters}

nests_by : (b : Bool) (bytes : List ℕ) (d : Json) → Some d ≡ cond b (read bytes) None → depth d ≤ max_depth
nests_by true bytes d h = depth-read bytes d (sym h)
nests_by false bytes d h = cc

-- what is read nests no deeper than it may
pub json_nests : (bytes : List ℕ) (d : Json) → Some d ≡ json_of bytes → depth d ≤ max_depth
json_nests bytes d h = nests_by (is_utf8 bytes) bytes d h

found_nests : (o : Ordering) (found : Option Json) (e d : Json) (ms : Members) → match_ordering o found (Some e) found ≡ Some d
    → (found ≡ Some d → depth d ≤ members_depth ms) → depth d ≤ max (depth e) (members_depth ms)
found_nests Less found e d ms h there = let within = there h in omega (arith, within)
found_nests Equal found e d ms h there = let same : depth e ≡ depth d = ap (λ (o : Option Json). elim o [ Some x ↦ depth x | None ↦ 0 ]) h in omega (arith, same)
found_nests Greater found e d ms h there = let within = there h in omega (arith, within)

member_nests : (name : List ℕ) (d : Json) (ms : Members) → get_member name ms ≡ Some d → depth d ≤ members_depth ms
member_nests name d no_members h = cc
member_nests name d (member other e ms) h = found_nests (slice_cmp nat_cmp name other) (get_member name ms) e d ms h (member_nests name d ms)

-- a member nests less deep than its object
pub get_nests : (name : List ℕ) (d e : Json) → get name d ≡ Some e → depth e < depth d
get_nests name null e h = cc
get_nests name (boolean b) e h = cc
get_nests name (number n) e h = cc
get_nests name (string s) e h = cc
get_nests name (array ds) e h = cc
get_nests name (object ms) e h = let within = member_nests name e ms h in omega (arith, within)

read_json : (text : List ℕ) (d : Json) → IsUtf8 text → read text ≡ Some d → json_of text ≡ Some d
read_json text d utf8 h = rw (is_utf8-from_IsUtf8 text utf8) h

read_empty : read (codes "{}") ≡ Some (object no_members)
unfolding serde_json_on_literals
read_empty = refl

pub empty_parameters : (text : List ℕ) → text ≡ codes "{}" → IsUtf8 text → IsParameters text
empty_parameters text e utf8 = (no_members, read_json text (object no_members) utf8 (ap read e ∙ read_empty), refl, sym e, omega arith)

nothing : false ≡ true → ⊥
nothing h = cc

pub are_parameters : (d made : Json) (text : List ℕ) → IsSome (as_object d) → made ≡ plain_of d → has_float made ≡ false → depth made ≡ depth d → plain_of made ≡ made
    → (has_float made ≡ false → text ≡ compact_text made) → (depth made ≤ max_depth → read text ≡ Some made) → IsUtf8 text → depth d < max_depth → IsParameters text
are_parameters null made text is e plain nests stays written back utf8 within = absurd (nothing is)
are_parameters (boolean b) made text is e plain nests stays written back utf8 within = absurd (nothing is)
are_parameters (number n) made text is e plain nests stays written back utf8 within = absurd (nothing is)
are_parameters (string s) made text is e plain nests stays written back utf8 within = absurd (nothing is)
are_parameters (array ds) made text is e plain nests stays written back utf8 within = absurd (nothing is)
are_parameters (object ms) made text is e plain nests stays written back utf8 within = (
  plain_members ms,
  read_json text (object (plain_members ms)) utf8 (back (omega (arith, nests, within)) ∙ ap Some e),
  ap plain_of (sym e) ∙ stays ∙ e,
  ap compact_text (sym e) ∙ sym (written plain),
  omega (arith, within, nests, ap depth e),
)
