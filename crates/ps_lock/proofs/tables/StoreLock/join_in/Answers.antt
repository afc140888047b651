use Rattle.std.proofs.Common.{rules, ap, ◌∙◌}
use Rattle.ps_lock.proofs.Keeping.{joins, settles}
use Rattle.ps_lock.proofs.tables.StoreLock.join_in.Goals as goal

pub join_seat-requires : goal.join_seat-requires
join_seat-requires g c = (search rules, search rules, search rules, search rules, joins g.V.Kept.set_by g.V.Kept.stands _ _ _ _ _ (ap (λ m. m.0.stage) c.args.seat.now.idle) (ap (λ m. m.0.stage) c.args.other.idle))

pub load-requires : goal.load-requires
load-requires g c = (search rules, search rules, settles g.V.Kept.set_by g.V.Kept.stands _ _ _ _ (ap (λ m. m.0.stage) c.join_seat.ensures.2 ∙ ap (λ m. m.0.stage) c.args.seat.now.idle))
