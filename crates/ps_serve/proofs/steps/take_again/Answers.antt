use Rattle.std.proofs.Common.{◌-◌, List, Ok, subst}
use Rattle.std.specs.Prelude.{Result}
use Rattle.ps_store.specs.declared.readings.TakeFault.{TakeFault}
use Rattle.ps_session.specs.Kept.{state_of}
use Rattle.ps_streams.specs.declared.outcomes.TurnOutcome.{TurnOutcome}
use Rattle.ps_streams.specs.Turning.{line_in}
use Rattle.ps_serve.specs.declared.outcomes.Served.{Served}
use Rattle.ps_serve.specs.Readers.{HasTurnedAt}
use Rattle.ps_serve.specs.Steps.{WritesTake}
use Rattle.ps_serve.proofs.Stepping.{again_taken, item_is}
use Rattle.ps_serve.proofs.steps.take_again.Goals as goal

pub returns-in-Ok-clause-steps : goal.returns-in-Ok-clause-steps
returns-in-Ok-clause-steps g c =
    let lock = c.args.desk.now.lock.now in
    let before = c.args.reader in
    let after = c.turn_through-reader.result.0 in
    let asker = c.args.stream.now.session.asker in
    let s = state_of c.args.stream.now.session in
    let s' = state_of c.turn_through-reader.new.session in
    let exp = c.args.terms.now.exp in
    let moment = c.now-moment.result in
    let whole = c.places_are_fronts.ensures.whole in
    let turned : HasTurnedAt lock before after asker s s' (Ok c.in-Ok.outcome) =
    subst (λ (r : Result TurnOutcome TakeFault). HasTurnedAt lock before after asker s s' r) c.in-Ok.is c.turn_through-reader.ensures.turns in
    let old = g.K.Sink.taken c.args.to.now in
    let new = g.K.Sink.taken c.write_take-written.new.to in
    let read = g.K.Sink.faults c.args.to.now in
    let now = g.K.Sink.faults c.write_take-written.new.to in
    let served' = c.write_take-written.new.served.items in
    let item = c.served_at-item.result in
    let here = item_is whole lock after asker item turned.goes_on.at_end c.served_at-item.ensures.place c.served_at-item.ensures.checkpoint.0 c.served_at-item.ensures.checkpoint.1
    c.served_at-item.ensures.completed in
    let writes = subst (λ (xs : List Served). WritesTake (exp - moment) item (line_in c.in-Ok.outcome) xs served' old new read now c.write_take-written.result) c.reserve.ensures.items
    c.write_take-written.ensures.writes in
    again_taken (g.C.Clock.may_give c.args.terms.now.clock.now) exp lock before after asker s s' c.args.stream.now.served.items served' old new read now c.requires.again
    whole moment c.now-moment.ensures c.if-moment-terms.false c.in-Ok.outcome item turned here c.write_take-written.result writes
