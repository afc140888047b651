use Rattle.std.proofs.Common.{◌≡◌, ◌∷◌, sym, ap, subst, ◌∙◌, rules}
use Rattle.std.specs.List.{AllByRecursion}
use Rattle.ps_client_log.specs.Lending.{noted}
use Rattle.ps_client_log.specs.Seeing.{copies_at, copies_of, HoldsKeysOnce, all_seen}
use Rattle.ps_client_log.proofs.Latest.{all_seen-append}
use Rattle.ps_client_log.proofs.rows.latest_copies.Goals as goal

pub slots-preserved : goal.slots-preserved
slots-preserved c =
    let rest = c.next.new.self in
    let name = c.in-Some.name.now in
    let slot = c.in-Some.slot.now in
    let is : c.slots.name-iterator ≡ (name, slot) ∷ rest = search rules in (
      λ object.
          ap (λ known. all_seen object known (copies_of rest)) (c.in_ok-see_slot.ensures.rows object)
          ∙ sym (all_seen-append object (noted c.slots.rows object) (copies_at name slot) (copies_of rest))
          ∙ ap (λ left. all_seen object (noted c.slots.rows object) (copies_of left)) (sym is)
          ∙ c.slots.invariant.0 object,
      λ once. c.slots.invariant.1 (subst (AllByRecursion HoldsKeysOnce) (sym is) (c.in_ok-see_slot.ensures.once, once)),
    )
