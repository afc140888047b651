use Rattle.ps_lock.specs.Words.{history_of}
use Rattle.ps_store.specs.declared.events.Event.TheVariants.{Switch}
use Rattle.ps_workers.specs.Sharing.{terms_of, fixed_of}
use Rattle.ps_workers.proofs.Narrow.{may_switch}
use Rattle.ps_workers.proofs.Turning.{kept, begins, leaves, leaves_with, looks, adds, refused_switch, switch_stands}
use Rattle.ps_workers.proofs.renewals.switch_in_turn.Goals as goal

pub leave_with-requires : goal.leave_with-requires
leave_with-requires g c =
    let lock = c.args.lock.now in
    let turn = c.turn-turn.result in
    let lent = c.value.result.now in
    let stands = c.turn-turn.ensures.stands in
    let said = c.in-Ok.ensures (fixed_of lock) (history_of turn) (begins lock turn lent c.value.ensures.value stands) in
    leaves_with lock turn lent c.value.ensures.value stands Switch c.switch.new.self c.turn-turn.ensures.lock said.3 (may_switch (terms_of lock) lent (history_of turn) (kept lock turn lent c.value.ensures.value stands))

pub leave-requires : goal.leave-requires
leave-requires g c =
    let lock = c.args.lock.now in
    let turn = c.turn-turn.result in
    let lent = c.value.result.now in
    let stands = c.turn-turn.ensures.stands in
    let said = c.in-Err.ensures (fixed_of lock) (history_of turn) (begins lock turn lent c.value.ensures.value stands) in
    leaves lock turn lent c.value.ensures.value stands c.switch.new.self c.turn-turn.ensures.lock (switch_stands (fixed_of lock) (history_of turn) c.switch.new.self c.in-Err.fault said)

pub returns-in-Ok-clause-turn : goal.returns-in-Ok-clause-turn
returns-in-Ok-clause-turn g c =
    let lock = c.args.lock.now in
    let turn = c.turn-turn.result in
    let lent = c.value.result.now in
    let stands = c.turn-turn.ensures.stands in
    let said = c.in-Ok.ensures (fixed_of lock) (history_of turn) (begins lock turn lent c.value.ensures.value stands) in
    (history_of turn, (adds c.args.seat c.leave_with.result turn c.turn-turn.ensures.seen c.turn-turn.ensures.own Switch c.leave_with.ensures.seen c.leave_with.ensures.own, said.0, said.1, said.2))

pub returns-in-Err-clause-turn : goal.returns-in-Err-clause-turn
returns-in-Err-clause-turn g c =
    let lock = c.args.lock.now in
    let turn = c.turn-turn.result in
    let lent = c.value.result.now in
    let stands = c.turn-turn.ensures.stands in
    let said = c.in-Err.ensures (fixed_of lock) (history_of turn) (begins lock turn lent c.value.ensures.value stands) in
    (history_of turn, (looks c.args.seat c.leave.result turn c.turn-turn.ensures.seen c.turn-turn.ensures.own c.leave.ensures.seen c.leave.ensures.own, refused_switch (fixed_of lock) (history_of turn) c.switch.new.self c.in-Err.fault said))
