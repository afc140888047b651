use Rattle.std.proofs.Common.{◌≡◌, ℕ, List, [], ◌∷◌, ◌++◌, refl, sym, ap, ◌∙◌, subst}
use Rattle.std.specs.Prelude.{if◌then◌else◌}
use Rattle.std.specs.BTreeMap.{BTreeMap}
use Rattle.std.specs.Option.{IsSome}
use Rattle.ps_params.specs.Places.{Spot, is_spot, places_or_none, places_at}
use Rattle.ps_params.proofs.Finding.{place_put}
use Rattle.ps_params.proofs.places.add_place.Goals as goal

pub returns-in-Some : goal.returns-in-Some
returns-in-Some c =
    place_put c.args.found.now (c.get_mut.follows.lender c.push.new.self) c.args.spot c.args.place c.in-Some.places.now c.push.new.self c.in_ok-push.ensures.ok
    (ap places_or_none (sym c.in-Some.ensures.value))
    ((c.get_mut.follows.holds c.push.new.self).3 (subst IsSome c.in-Some.ensures.value refl)).0

pub returns : goal.returns
returns c =
    let none : c.get_mut.follows.lender-at-none ≡ c.args.found.now = c.get_mut.follows.holds-at-none in
    subst (λ (m : BTreeMap Spot (List ℕ)). (other : Spot) → places_at c.insert.new.self other ≡ (if is_spot c.args.spot other then places_at m other ++ c.args.place ∷ [] else places_at m other)) none
    (place_put c.get_mut.follows.lender-at-none c.insert.new.self c.args.spot c.args.place [] c.push-2.new.self (c.in_ok-push-2.ensures.ok ∙ ap (λ (ps : List ℕ). ps ++ c.args.place ∷ []) c.new-places.ensures)
    (ap (λ (m : BTreeMap Spot (List ℕ)). places_at m c.args.spot) none ∙ ap places_or_none (sym c.in_default.ensures.value))
    c.in_ok-insert.ensures.updates.0)
