use Rattle.ps_workers.specs.Sharing.{terms_of}
use Rattle.ps_workers.proofs.Renewed.{builds_next}
use Rattle.ps_workers.proofs.renewing.build_next.Goals as goal

pub returns-clause-builds : goal.returns-clause-builds
returns-clause-builds g c = λ next some.
    let turned = c.build_in_turn.ensures.turn in
    builds_next (terms_of c.args.place.now.lock.now) c.runs_are_the_longest.ensures turned.0 next c.args.batch c.args.seat c.build_in_turn.result.0 c.build_in_turn.result.1 some turned.1
