use Rattle.std.proofs.Common.{length}
use Rattle.ps_session.specs.Kept.{state_of}
use Rattle.service_cases.proofs.Turning.{over_by, still_over, way}
use Rattle.service_cases.proofs.turns.turn.Goals as goal

pub take_turn_of-requires : goal.take_turn_of-requires
take_turn_of-requires c =
    let over = c.requires in
    (over.fixed, over.history, length over.history, over.serves, way c.args.store.now c.args.session.now.asker (state_of c.args.session.now) over)

pub returns-clause-over : goal.returns-clause-over
returns-clause-over c =
    let over = c.requires in
    let asker = c.args.session.now.asker in
    let session = state_of c.args.session.now in
    over_by c.args.store.now c.take_turn_of.new.session.asker c.args.session.now.asker (state_of c.take_turn_of.new.session) c.take_turn_of.ensures.asker
    (still_over c.args.store.now asker session over (state_of c.take_turn_of.new.session) c.in_ok-outcome.outcome
    (c.in_ok-outcome.ensures.turns over.fixed over.history (length over.history) over.serves (way c.args.store.now asker session over)))
