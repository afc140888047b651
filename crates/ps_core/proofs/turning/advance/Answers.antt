use Rattle.std.proofs.lemmas.Result.{err_from_is_err_and}
use Rattle.ps_core.proofs.Sent.{not_turned, turned_so, way}
use Rattle.ps_core.proofs.turning.advance.Goals as goal

pub take_turn_of-requires : goal.take_turn_of-requires
take_turn_of-requires c =
    let r = c.requires in
    (r.0, r.1.history, r.3, r.6.serves, way r.0 r.1 c.args.store.now r.2 c.args.stream.now r.3 r.4 r.5 r.6)

pub returns-in_err-outcome : goal.returns-in_err-outcome
returns-in_err-outcome c =
    let p = err_from_is_err_and c.from_residual.result c.from_residual.ensures.1 in
    rw (p.1, p.2) (λ fixed play asker at session waiting it.
    not_turned fixed play c.args.store.now asker c.args.stream.now at session waiting it c.places_are_fronts.ensures.whole
    (record { session = c.take_turn_of.new.session; waiting = c.args.stream.now.waiting }) c.in_err-outcome.field-0.0
    (c.in_err-outcome.ensures.turns fixed play.history at it.serves (way fixed play c.args.store.now asker c.args.stream.now at session waiting it)))

pub returns : goal.returns
returns c = λ fixed play asker at session waiting it.
    turned_so fixed play c.args.store.now asker c.args.stream.now at session waiting it c.places_are_fronts.ensures.whole
    (record { session = c.take_turn_of.new.session; waiting = c.send.new.waiting }) c.in_ok-outcome.outcome c.in_ok-effect.effect
    (c.in_ok-outcome.ensures.turns fixed play.history at it.serves (way fixed play c.args.store.now asker c.args.stream.now at session waiting it))
    (record { effect_is = c.in_ok-effect.ensures.effect; printable = c.in_ok-effect.ensures.printable; waiting = c.in_ok-effect.ensures.waiting; asker = c.in_ok-outcome.ensures.asker })
