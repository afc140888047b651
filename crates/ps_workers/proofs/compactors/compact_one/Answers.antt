use Rattle.ps_workers.specs.Sharing.{terms_of}
use Rattle.ps_workers.proofs.Compactor.{worked_by}
use Rattle.ps_workers.proofs.compactors.compact_one.Goals as goal

pub returns-clause-worked : goal.returns-clause-worked
returns-clause-worked g c =
    let turned = c.compact_in_turn-seat.ensures.turn in
    worked_by (terms_of c.args.place.now.lock.now) turned.0 c.args.name.now c.args.seat c.compact_in_turn-seat.result.0 c.compact_in_turn-seat.result.1 turned.1
