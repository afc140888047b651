use Rattle.ps_workers.specs.Sharing.{fixed_of}
use Rattle.ps_workers.proofs.Writer.{writes_next}
use Rattle.ps_workers.proofs.writers.write_next.Goals as goal

pub returns-clause-writes : goal.returns-clause-writes
returns-clause-writes g c = λ next.
    let turned = c.write_in_turn.ensures.turn in
    writes_next (fixed_of c.args.place.now.lock.now) next c.runs_are_the_longest.ensures turned.0 c.args.batch c.args.seat c.write_in_turn.result.0 c.write_in_turn.result.1 turned.1
