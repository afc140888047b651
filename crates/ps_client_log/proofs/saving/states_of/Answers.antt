use Rattle.std.proofs.Common.{◌≡◌, [], ◌∷◌, refl, sym, subst, rules}
use Rattle.ps_client_log.specs.Images.{bucket_found}
use Rattle.ps_client_log.proofs.Listings.{Listing, Listing-first, Listing-step}
use Rattle.ps_client_log.proofs.saving.states_of.Goals as goal

pub slots-init : goal.slots-init
slots-init c =
    let found = bucket_found c.args.buckets.now in
    let all = c.args.buckets.now.slots.entries in
    let start : c.into_iter-name-iterator.result ≡ all = search rules in
    let none : c.new-states.result ≡ [] = c.new-states.ensures in
    subst (λ states. Listing found states c.into_iter-name-iterator.result) (sym none)
    (subst (Listing found []) (sym start) (Listing-first found all (λ name. refl) c.iter-name-items.ensures.unique))

pub slots-preserved : goal.slots-preserved
slots-preserved c =
    let found = bucket_found c.args.buckets.now in
    let is : c.slots.name-iterator ≡ (c.in-Some.name.now, c.in-Some.slot.now) ∷ c.next.new.self = search rules in
    Listing-step found c.slots.states c.in-Some.name.now c.in-Some.slot.now c.next.new.self c.add_state.new.states
    (subst (Listing found c.slots.states) is c.slots.invariant) c.in_ok-add_state.ensures
