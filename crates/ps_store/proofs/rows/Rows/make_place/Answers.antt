use Rattle.std.proofs.Common.{◌≡◌, Bool, true, false, Option, Some, None, refl, sym, ap, ◌∙◌}
use Rattle.std.specs.Prelude.{is_some, if◌then◌else◌}
use Rattle.std.specs.BTreeMap.{get}
use Rattle.std.specs.Ordering.{eq_by_cmp}
use Rattle.ps_rows.specs.Source.{key_cmp}
use Rattle.ps_store.specs.Rows.{in_place}
use Rattle.ps_store.proofs.Maps.{Puts, tied_rows, equal_rows, read_after, read_kept}
use Rattle.ps_store.proofs.rows.Rows.make_place.Goals as goal

none_of : {A : Type 0} (o : Option A) → is_some o ≡ false → o ≡ None
none_of None h = refl
none_of (Some x) h = absurd (cc)

stays : (b old new : Bool) → new ≡ (if b then true else old) → old ≡ true → new ≡ true
stays true old new e h = e
stays false old new e h = e ∙ h

pub returns-clause-rows : goal.returns-clause-rows
returns-clause-rows c =
    let none : get key_cmp c.args.self.now.places c.args.key ≡ None = none_of (get key_cmp c.args.self.now.places c.args.key) (sym c.contains_key.ensures ∙ c.if-contains_key.false) in
    let put : Puts key_cmp c.args.self.now.places c.insert.new.self c.args.key None = c.in_ok-insert.ensures.updates.0 in
    let puts : Puts key_cmp c.args.self.now.places c.insert.new.self c.args.key None = put in
    read_kept key_cmp (eq_by_cmp key_cmp) tied_rows equal_rows in_place c.args.self.now.places c.insert.new.self c.args.key (Some None) puts (ap in_place (sym none))

pub returns-clause-places : goal.returns-clause-places
returns-clause-places c =
    let put : Puts key_cmp c.args.self.now.places c.insert.new.self c.args.key None = c.in_ok-insert.ensures.updates.0 in
    λ other. stays ((eq_by_cmp key_cmp) other c.args.key) (is_some (get key_cmp c.args.self.now.places other)) (is_some (get key_cmp c.insert.new.self other))
    (read_after key_cmp (eq_by_cmp key_cmp) tied_rows equal_rows (λ o. is_some o) c.args.self.now.places c.insert.new.self c.args.key (Some None) put other)
