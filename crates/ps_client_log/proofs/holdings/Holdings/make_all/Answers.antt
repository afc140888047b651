use Rattle.std.proofs.Common.{◌≡◌, ◌∷◌, sym, ap, subst, ◌∙◌, rules}
use Rattle.ps_client_log.specs.Edits.{CanMakeAll, with_edits}
use Rattle.ps_client_log.specs.Rooms.{kept_by, HasRoom}
use Rattle.ps_client_log.proofs.Making.{HasRoom-rest}
use Rattle.ps_client_log.proofs.holdings.Holdings.make_all.Goals as goal

pub edits-preserved : goal.edits-preserved
edits-preserved c =
    let rest = c.next.new.self.rest.items in
    let is : c.edits.edit-iterator.rest.items ≡ c.in-Some.edit ∷ rest = search rules in
    let can : CanMakeAll (kept_by c.edits.self) (c.in-Some.edit ∷ rest) = subst (CanMakeAll (kept_by c.edits.self)) is c.edits.invariant.1 in
    let room : HasRoom c.edits.self (c.in-Some.edit ∷ rest) = subst (HasRoom c.edits.self) is c.edits.invariant.2 in
    let here : with_edits (kept_by c.edits.self) (c.in-Some.edit ∷ rest) ≡ with_edits (kept_by c.args.self.now) c.args.edits.items =
    ap (with_edits (kept_by c.edits.self)) (sym is) ∙ c.edits.invariant.0 in (
      ap (λ kept. with_edits kept rest) c.make.ensures.kept ∙ here,
      subst (λ kept. CanMakeAll kept rest) (sym c.make.ensures.kept) can.2,
      HasRoom-rest c.edits.self c.make.new.self c.in-Some.edit rest room c.make.ensures.entries c.make.ensures.queue,
      λ distinct. c.make.ensures.shown (c.edits.invariant.3 distinct),
    )
