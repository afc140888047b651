use Rattle.ps_workers.specs.Sharing.{terms_of}
use Rattle.ps_workers.proofs.Renewed.{switches_next}
use Rattle.ps_workers.proofs.renewing.switch_next.Goals as goal

pub returns-clause-switches : goal.returns-clause-switches
returns-clause-switches g c = λ next batch some.
    let turned = c.switch_in_turn-seat.ensures.turn in
    switches_next (terms_of c.args.place.now.lock.now) turned.0 next batch c.args.seat c.switch_in_turn-seat.result.0 c.switch_in_turn-seat.result.1 some turned.1
