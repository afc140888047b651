use Rattle.std.proofs.Common.{◌≡◌, Bool, true, false, Option, Some, None, refl, sym, ap, ◌∙◌, subst}
use Rattle.std.specs.Prelude.{bytes_eq, is_some, unwrap_or, if◌then◌else◌}
use Rattle.std.specs.BTreeMap.{get}
use Rattle.std.specs.Cmp.Lexicographic.{slice_cmp}
use Rattle.std.specs.Ordering.{nat_cmp}
use Rattle.ps_store.specs.StoreGenerations.{Endings}
use Rattle.ps_store.proofs.Alike.{itself_alike, endings_same}
use Rattle.ps_store.proofs.Maps.{Puts, tied, equal, read_after, read_kept}
use Rattle.ps_store.proofs.generations.Generations.make_place.Goals as goal

none_of : {A : Type 0} (o : Option A) → is_some o ≡ false → o ≡ None
none_of None h = refl
none_of (Some x) h = absurd (cc)

stays : (b old new : Bool) → new ≡ (if b then true else old) → old ≡ true → new ≡ true
stays true old new e h = e
stays false old new e h = e ∙ h

pub returns-clause-alike : goal.returns-clause-alike
returns-clause-alike c =
    let old : Endings = c.args.self.now.endings in
    let new : Endings = c.insert.new.self in
    let none : get (slice_cmp nat_cmp) old c.args.mark.now ≡ None = none_of (get (slice_cmp nat_cmp) old c.args.mark.now) (sym c.contains_key.ensures ∙ c.if-contains_key.false) in
    let put : Puts (slice_cmp nat_cmp) old new c.in_ok-copy.field-0 None = c.in_ok-insert.ensures.updates.0 in
    let puts : Puts (slice_cmp nat_cmp) old new c.args.mark.now None = subst (λ k. Puts (slice_cmp nat_cmp) old new k None) c.in_ok-copy.ensures put in
    record {
      number = refl;
      mark = refl;
      by = refl;
      begun = refl;
      building = itself_alike c.args.self.now.building;
      endings = λ bucket. endings_same old new (read_kept (slice_cmp nat_cmp) bytes_eq tied equal (λ o. unwrap_or o None) old new c.args.mark.now (Some None) puts (ap (λ o. unwrap_or o None) (sym none))) bucket;
      places = λ other. stays (bytes_eq other c.args.mark.now) (is_some (get (slice_cmp nat_cmp) old other)) (is_some (get (slice_cmp nat_cmp) new other))
          (read_after (slice_cmp nat_cmp) bytes_eq tied equal (λ o. is_some o) old new c.args.mark.now (Some None) puts other);
    }
