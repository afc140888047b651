use Rattle.std.proofs.Common.{rules, ap}
use Rattle.ps_lock.proofs.Keeping.{splits}
use Rattle.ps_lock.proofs.tables.StoreLock.split.Goals as goal

pub split_seat-place-requires : goal.split_seat-place-requires
split_seat-place-requires g c = (search rules, search rules, splits g.V.Kept.set_by g.V.Kept.stands _ _ _ (ap (λ m. m.0.stage) c.args.seat.now.idle))
