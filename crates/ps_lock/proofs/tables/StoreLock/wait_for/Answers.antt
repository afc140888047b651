use Rattle.std.proofs.Common.{rules, ◌≡◌, ap, ◌∙◌, []}
use Rattle.ps_lock.specs.declared.views.Stage.TheVariants.{Waits}
use Rattle.ps_lock.proofs.Keeping.{looks}
use Rattle.ps_lock.proofs.tables.StoreLock.wait_for.Goals as goal

pub load-served-requires : goal.load-served-requires
load-served-requires g c = let is : c.loop.place.me.0.stage ≡ Waits c.args.ticket = ap (λ m. m.0.stage) c.loop.invariant.1 ∙ ap (λ m. m.0.stage) c.requires.1 in
    let bare : c.loop.place.me.1 ≡ [] = ap (λ m. m.1) c.loop.invariant.1 ∙ ap (λ m. m.1) c.requires.1 in
    (search rules, search rules, looks g.V.Kept.set_by g.V.Kept.stands _ _ _ _ c.args.ticket is bare)
