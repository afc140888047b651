use Rattle.std.proofs.Common.{ℕ, [], ◌∷◌, ◌++◌, sym, subst}
use Rattle.ps_lock.specs.Words.{history_of}
use Rattle.ps_store.specs.declared.events.Event.TheVariants.{Build}
use Rattle.ps_store.specs.Stores.{StoreStandsFor}
use Rattle.ps_workers.specs.Gains.{AddsTo}
use Rattle.ps_workers.specs.Sharing.{terms_of, fixed_of}
use Rattle.ps_workers.proofs.Narrow.{may_build}
use Rattle.ps_workers.proofs.Turning.{kept, begins, leaves, leaves_with, looks, adds}
use Rattle.ps_workers.proofs.renewals.build_in_turn.Goals as goal

pub leave_with-requires : goal.leave_with-requires
leave_with-requires g c =
    let lock = c.args.lock.now in
    let turn = c.turn-turn.result in
    let lent = c.value.result.now in
    let stands = c.turn-turn.ensures.stands in
    let said = c.in-Ok.ensures (fixed_of lock) (history_of turn) (begins lock turn lent c.value.ensures.value stands) in
    let built = subst (λ (n : ℕ). StoreStandsFor (fixed_of lock) c.build_batch.new.self (history_of turn ++ Build n ∷ [])) (sym c.from-changes.ensures) said.5 in
    leaves_with lock turn lent c.value.ensures.value stands (Build c.from-changes.result) c.build_batch.new.self c.turn-turn.ensures.lock built
    (may_build (terms_of lock) lent (history_of turn) (kept lock turn lent c.value.ensures.value stands) c.from-changes.result)

pub leave-requires : goal.leave-requires
leave-requires g c =
    let lock = c.args.lock.now in
    let turn = c.turn-turn.result in
    let lent = c.value.result.now in
    let stands = c.turn-turn.ensures.stands in
    let said = c.in-Err.ensures (fixed_of lock) (history_of turn) (begins lock turn lent c.value.ensures.value stands) in
    leaves lock turn lent c.value.ensures.value stands c.build_batch.new.self c.turn-turn.ensures.lock said.1

pub returns-in-Ok-clause-turn : goal.returns-in-Ok-clause-turn
returns-in-Ok-clause-turn g c =
    let lock = c.args.lock.now in
    let turn = c.turn-turn.result in
    let lent = c.value.result.now in
    let stands = c.turn-turn.ensures.stands in
    let said = c.in-Ok.ensures (fixed_of lock) (history_of turn) (begins lock turn lent c.value.ensures.value stands) in
    let added =
    subst (λ (n : ℕ). AddsTo (history_of turn) (Build n) c.args.seat c.leave_with.result) c.from-changes.ensures
    (adds c.args.seat c.leave_with.result turn c.turn-turn.ensures.seen c.turn-turn.ensures.own (Build c.from-changes.result) c.leave_with.ensures.seen c.leave_with.ensures.own) in
    (history_of turn, (added, said.0, said.1, said.2, said.3, said.4))

pub returns-in-Err-clause-turn : goal.returns-in-Err-clause-turn
returns-in-Err-clause-turn g c =
    let lock = c.args.lock.now in
    let turn = c.turn-turn.result in
    let lent = c.value.result.now in
    let stands = c.turn-turn.ensures.stands in
    let said = c.in-Err.ensures (fixed_of lock) (history_of turn) (begins lock turn lent c.value.ensures.value stands) in
    (history_of turn, (looks c.args.seat c.leave.result turn c.turn-turn.ensures.seen c.turn-turn.ensures.own c.leave.ensures.seen c.leave.ensures.own, said.0))
