use Rattle.std.proofs.Common.{[], ◌∷◌, ◌++◌, sym, subst}
use Rattle.ps_lock.specs.Words.{history_of}
use Rattle.ps_store.specs.declared.events.Event.TheVariants.{Commit}
use Rattle.ps_store.specs.Stores.{StoreStandsFor}
use Rattle.ps_workers.specs.declared.shared.SharedStore.{SharedStore}
use Rattle.ps_workers.specs.Sharing.{terms_of, fixed_of}
use Rattle.ps_workers.proofs.Narrow.{may_commit}
use Rattle.ps_workers.proofs.Turning.{Stands, kept, begins, keeps, leaves, leaves_with, looks, adds}
use Rattle.ps_workers.proofs.writers.commit_or_look.Goals as goal

pub leave_with-requires : goal.leave_with-requires
leave_with-requires g c =
    let lock = c.args.lock.now in
    let turn = c.turn-turn.result in
    let lent = c.value.result.now in
    let stands = c.turn-turn.ensures.stands in
    let said = c.in-Ok.ensures (fixed_of lock) (history_of turn) (begins lock turn lent c.value.ensures.value stands) in
    subst (λ (x : SharedStore). Stands turn.lock.now x (history_of turn ++ Commit ∷ [])) (sym c.value-in-Ok.ensures.value)
    (leaves_with lock turn lent c.value.ensures.value stands Commit c.commit.new.self c.turn-turn.ensures.lock said.2
    (may_commit (terms_of lock) lent (history_of turn) (kept lock turn lent c.value.ensures.value stands)))

pub leave-requires : goal.leave-requires
leave-requires g c =
    let lock = c.args.lock.now in
    let turn = c.turn-turn.result in
    let lent = c.value.result.now in
    let stands = c.turn-turn.ensures.stands in
    let said = c.in-Err.ensures (fixed_of lock) (history_of turn) (begins lock turn lent c.value.ensures.value stands) in
    subst (λ (x : SharedStore). Stands turn.lock.now x (history_of turn)) (sym c.value-in-Err.ensures.value)
    (leaves lock turn lent c.value.ensures.value stands c.commit.new.self c.turn-turn.ensures.lock said.1)

pub returns-in-Ok-clause-turn : goal.returns-in-Ok-clause-turn
returns-in-Ok-clause-turn g c =
    let lock = c.args.lock.now in
    let turn = c.turn-turn.result in
    let lent = c.value.result.now in
    let stands = c.turn-turn.ensures.stands in
    let said = c.in-Ok.ensures (fixed_of lock) (history_of turn) (begins lock turn lent c.value.ensures.value stands) in
    let again = subst (λ (x : SharedStore). StoreStandsFor (fixed_of lock) x.store (history_of turn ++ Commit ∷ [])) (sym c.value-in-Ok.ensures.value) said.2 in (
      history_of turn,
      (
        adds c.args.seat c.leave_with.result turn c.turn-turn.ensures.seen c.turn-turn.ensures.own Commit c.leave_with.ensures.seen c.leave_with.ensures.own,
        c.committed-committed.ensures (fixed_of lock) (history_of turn ++ Commit ∷ []) again,
      ),
    )

pub returns-in-Err-clause-turn : goal.returns-in-Err-clause-turn
returns-in-Err-clause-turn g c =
    let lock = c.args.lock.now in
    let turn = c.turn-turn.result in
    let lent = c.value.result.now in
    let stands = c.turn-turn.ensures.stands in
    let said = c.in-Err.ensures (fixed_of lock) (history_of turn) (begins lock turn lent c.value.ensures.value stands) in
    let again = subst (λ (x : SharedStore). StoreStandsFor (fixed_of lock) x.store (history_of turn)) (sym c.value-in-Err.ensures.value) said.1 in (
      history_of turn,
      record {
        looks = looks c.args.seat c.leave.result turn c.turn-turn.ensures.seen c.turn-turn.ensures.own c.leave.ensures.seen c.leave.ensures.own;
        stood = (_, keeps lock turn lent c.value.ensures.value stands c.commit.new.self said.1);
        found = c.look_at-look.ensures (fixed_of lock) (history_of turn) again;
      },
    )
