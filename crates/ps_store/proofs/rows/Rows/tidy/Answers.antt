use Rattle.std.proofs.Common.{◌≡◌, Bool, true, Option, Some, None, refl, sym, ap, ◌∙◌, not}
use Rattle.std.specs.Option.{option_copied}
use Rattle.std.specs.Prelude.{is_some}
use Rattle.std.specs.BTreeMap.{get}
use Rattle.std.specs.Ordering.{eq_by_cmp}
use Rattle.ps_rows.specs.Source.{key_cmp}
use Rattle.ps_store.specs.Rows.{in_place}
use Rattle.ps_store.proofs.Maps.{Takes, tied_rows, equal_rows, read_kept}
use Rattle.ps_store.proofs.rows.Rows.tidy.Goals as goal

none_of : {A : Type 0} (o : Option A) (b : Bool) → is_some o ≡ not b → b ≡ true → o ≡ None
none_of None b h e = refl
none_of (Some x) b h e = absurd (cc)

pub returns-then-is_none : goal.returns-then-is_none
returns-then-is_none c =
    let takes : Takes key_cmp c.args.self.now.places c.remove-place.new.self c.args.key.now = c.remove-place.ensures.updates.0 in
    let empty : None ≡ in_place (get key_cmp c.args.self.now.places c.args.key.now) = ap option_copied (sym (none_of c.get.result c.is_none.result c.is_none.ensures c.if-is_none.true)) ∙ c.get.ensures in
    read_kept key_cmp (eq_by_cmp key_cmp) tied_rows equal_rows in_place c.args.self.now.places c.remove-place.new.self c.args.key.now None takes empty
