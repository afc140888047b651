use Rattle.std.proofs.Common.{true, ◌≡◌, ◌+◌, List, ◌∷◌, ◌++◌, [], sym, ap, ◌∙◌, subst, take, arith}
use Rattle.std.proofs.lemmas.List.{take_more}
use Rattle.ps_store.specs.Originals.{Timed}
use Rattle.ps_store.specs.Rows.{has_place}
use Rattle.ps_store.specs.Tails.{HasPlaces}
use Rattle.ps_store.proofs.Advancing.{places_more, places_push}
use Rattle.ps_store.proofs.rows.make_places.Goals as goal

pub changes-preserved : goal.changes-preserved
changes-preserved c =
    let t : Timed = c.index.result.now in
    let xs : List Timed = c.args.changes.now.items in
    let next : take (c.changes.place + 1) xs ≡ take c.changes.place xs ++ t ∷ [] =
    take_more xs c.changes.place t (omega (arith, c.args.changes.now.ok)) ∙ ap (λ (x : Timed). take c.changes.place xs ++ x ∷ []) (sym c.index.ensures) in
    record {
      rows = λ key. c.in_ok-make_place.ensures.rows key ∙ c.changes.invariant.rows key;
      places = subst (HasPlaces c.make_place.new.self) (sym next)
          (places_push (take c.changes.place xs) t c.make_place.new.self (places_more (take c.changes.place xs) c.changes.rows c.make_place.new.self (λ q. c.in_ok-make_place.ensures.places q) c.changes.invariant.places) (subst (λ q. has_place c.make_place.new.self q ≡ true) c.in_ok-key.ensures c.in_ok-make_place.ensures.ok));
    }
