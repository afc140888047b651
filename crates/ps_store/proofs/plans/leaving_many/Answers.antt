use Rattle.std.proofs.Common.{[], ◌∷◌, ◌++◌, List, sym, ap, ◌∙◌}
use Rattle.ps_store.specs.Places.{Place, entry_at}
use Rattle.ps_store.proofs.Planning.{left_taken, left_free}
use Rattle.ps_store.proofs.plans.leaving_many.Goals as goal

pub places-preserved-then-is_in : goal.places-preserved-then-is_in
places-preserved-then-is_in c =
    c.places.invariant
    ∙ left_taken c.args.after.now c.args.before.now c.places.place-index c.place-item.result c.places-test.true c.place-item.is
    (sym (c.in_ok-taken.ensures (entry_at c.place-item.result)) ∙ sym c.is_in.ensures ∙ c.if-is_in.true)

pub places-preserved : goal.places-preserved
places-preserved c =
    c.in_ok-push.ensures.items
    ∙ ap (λ (place : Place). c.places.left.items ++ place ∷ []) c.in_ok-copy_place.ensures
    ∙ ap (λ (ps : List Place). ps ++ c.place-item.result ∷ []) c.places.invariant
    ∙ left_free c.args.after.now c.args.before.now c.places.place-index c.place-item.result c.places-test.true c.place-item.is
    (sym (c.in_ok-taken.ensures (entry_at c.place-item.result)) ∙ sym c.is_in.ensures ∙ c.if-is_in.false)
