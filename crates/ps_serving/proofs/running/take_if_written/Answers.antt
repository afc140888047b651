use Rattle.ps_lock.specs.Words.{seen_by}
use Rattle.ps_workers.specs.Sharing.{fixed_of}
use Rattle.ps_serving.proofs.NoneTaken.{serves_none}
use Rattle.ps_serving.proofs.running.take_if_written.Goals as goal

pub returns-clause-served : goal.returns-clause-served
returns-clause-served g c =
    rw c.take_none-seat.ensures.none (serves_none (fixed_of c.args.service.now.lock.now) c.args.service.now.site.now (g.C.Clock.may_give c.args.service.now.clock.now)
    (seen_by c.args.seats.0) (seen_by c.take_none-seat.result.0) (g.D.Doors.opened c.args.doors) (g.D.Doors.closed c.args.doors))
