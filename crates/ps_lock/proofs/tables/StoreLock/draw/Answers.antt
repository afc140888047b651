use Rattle.std.proofs.Common.{rules, arith, ◌≡◌, ap, ◌∙◌}
use Rattle.ps_lock.specs.declared.views.Stage.TheVariants.{Idle}
use Rattle.ps_lock.proofs.Keeping.{draws}
use Rattle.ps_lock.proofs.tables.StoreLock.draw.Goals as goal

pub compare_exchange-found-requires : goal.compare_exchange-found-requires
compare_exchange-found-requires g c = let is : c.loop.place.me.0.stage ≡ Idle = ap (λ m. m.0.stage) c.loop.invariant.1 ∙ ap (λ m. m.0.stage) c.requires.1 in
    (search rules, search rules, draws g.V.Kept.set_by g.V.Kept.stands _ _ _ _ _ is (omega arith))
