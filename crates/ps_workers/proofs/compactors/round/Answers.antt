use Rattle.std.proofs.Common.{◌≡◌, true}
use Rattle.ps_workers.specs.Sharing.{fixed_of}
use Rattle.ps_workers.specs.Work.{IsOfCompactor}
use Rattle.ps_workers.proofs.Compactor.{goes_for}
use Rattle.ps_workers.proofs.Working.{worked_looking}
use Rattle.ps_workers.proofs.compactors.round.Goals as goal

pub returns-then-is_drained-clause-goes_on : goal.returns-then-is_drained-clause-goes_on
returns-then-is_drained-clause-goes_on g c =
    let counted = c.totals_in_turn-seat.result in
    let turned = c.totals_in_turn-seat.ensures.turn in
    goes_for (c.args.was_closed ≡ true) (fixed_of c.args.place.now.lock.now) c.args.seat c.compact_last.result.0 counted.0 c.compact_last.result.1
    (worked_looking IsOfCompactor turned.0 c.args.seat counted.0 turned.1.looks.looks) c.compact_last.ensures.goes_on
