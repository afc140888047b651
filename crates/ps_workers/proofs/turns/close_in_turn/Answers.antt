use Rattle.ps_lock.specs.Words.{history_of}
use Rattle.ps_store.specs.declared.events.Event.TheVariants.{Close}
use Rattle.ps_workers.specs.Sharing.{terms_of, fixed_of}
use Rattle.ps_workers.proofs.Narrow.{may_close}
use Rattle.ps_workers.proofs.Turning.{kept, begins, leaves_with, adds}
use Rattle.ps_workers.proofs.turns.close_in_turn.Goals as goal

pub leave_with-requires : goal.leave_with-requires
leave_with-requires g c =
    let lock = c.args.lock.now in
    let turn = c.turn-turn.result in
    let lent = c.value.result.now in
    let stands = c.turn-turn.ensures.stands in
    let said = c.close_feed.ensures (fixed_of lock) (history_of turn) (begins lock turn lent c.value.ensures.value stands) in
    leaves_with lock turn lent c.value.ensures.value stands Close c.close_feed.new.self c.turn-turn.ensures.lock said (may_close (terms_of lock) lent (history_of turn) (kept lock turn lent c.value.ensures.value stands))

pub returns-clause-turn : goal.returns-clause-turn
returns-clause-turn g c =
    let turn = c.turn-turn.result in
    (history_of turn, adds c.args.seat c.leave_with.result turn c.turn-turn.ensures.seen c.turn-turn.ensures.own Close c.leave_with.ensures.seen c.leave_with.ensures.own)
