use Rattle.std.proofs.Common.{◌+◌, [], ◌∷◌, ◌++◌, length, sym, ap, ◌∙◌, subst}
use Rattle.ps_lock.specs.Words.{history_of, own_entries_in}
use Rattle.ps_store.specs.declared.events.Event.{Event}
use Rattle.ps_store.specs.declared.events.Event.TheVariants.{WriteCheckpoint}
use Rattle.ps_workers.specs.Sharing.{terms_of, fixed_of}
use Rattle.ps_store.specs.Stores.{StoreStandsFor}
use Rattle.ps_workers.proofs.Narrow.{MayCome, may_number}
use Rattle.ps_workers.proofs.Turning.{kept, begins, leaves, leaves_with, looks, adds, refused_number, number_stands}
use Rattle.ps_workers.proofs.requests.number_in_turn.Goals as goal

pub leave_with-requires : goal.leave_with-requires
leave_with-requires g c =
    let turn = c.turn-turn.result in
    let start = begins c.args.lock.now turn c.value.result.now c.value.ensures.value c.turn-turn.ensures.stands in
    let said = c.in-Ok-write_checkpoint.ensures (fixed_of c.args.lock.now) (history_of turn) start in
    let may =
    subst (λ (e : Event). MayCome (terms_of c.args.lock.now) (history_of turn) e) (sym c.in-Ok.ensures)
    (may_number (terms_of c.args.lock.now) c.value.result.now (history_of turn) (kept c.args.lock.now turn c.value.result.now c.value.ensures.value c.turn-turn.ensures.stands) c.args.user.now c.args.client.now) in
    let copied = subst (λ (e : Event). StoreStandsFor (fixed_of c.args.lock.now) c.write_checkpoint.new.self (history_of turn ++ e ∷ [])) (sym c.in-Ok.ensures) said.2 in
    leaves_with c.args.lock.now turn c.value.result.now c.value.ensures.value c.turn-turn.ensures.stands c.in-Ok.event c.write_checkpoint.new.self c.turn-turn.ensures.lock copied may

pub leave-requires : goal.leave-requires
leave-requires g c =
    let turn = c.turn-turn.result in
    let start = begins c.args.lock.now turn c.value.result.now c.value.ensures.value c.turn-turn.ensures.stands in
    let said = c.in-Err-write_checkpoint.ensures (fixed_of c.args.lock.now) (history_of turn) start in
    let again = number_stands (fixed_of c.args.lock.now) (history_of turn) c.args.user.now c.args.client.now c.write_checkpoint.new.self c.in-Err-write_checkpoint.fault said in
    leaves c.args.lock.now turn c.value.result.now c.value.ensures.value c.turn-turn.ensures.stands c.write_checkpoint.new.self c.turn-turn.ensures.lock again

pub returns-in-Ok-write_checkpoint-clause-turn : goal.returns-in-Ok-write_checkpoint-clause-turn
returns-in-Ok-write_checkpoint-clause-turn g c =
    let turn = c.turn-turn.result in
    let start = begins c.args.lock.now turn c.value.result.now c.value.ensures.value c.turn-turn.ensures.stands in
    let said = c.in-Ok-write_checkpoint.ensures (fixed_of c.args.lock.now) (history_of turn) start in
    let copied = ap (λ (e : Event). history_of turn ++ e ∷ []) c.in-Ok.ensures in
    let own = ap (λ (e : Event). own_entries_in turn ++ (e, length (history_of turn) + 1) ∷ []) c.in-Ok.ensures in (
      history_of turn,
      (
        adds c.args.seat c.leave_with.result turn c.turn-turn.ensures.seen c.turn-turn.ensures.own (WriteCheckpoint c.args.user.now c.args.client.now)
            (c.leave_with.ensures.seen ∙ copied) (c.leave_with.ensures.own ∙ own),
        said.0,
        said.1,
      ),
    )

pub returns-in-Err-write_checkpoint-clause-turn : goal.returns-in-Err-write_checkpoint-clause-turn
returns-in-Err-write_checkpoint-clause-turn g c =
    let turn = c.turn-turn.result in
    let start = begins c.args.lock.now turn c.value.result.now c.value.ensures.value c.turn-turn.ensures.stands in
    let said = c.in-Err-write_checkpoint.ensures (fixed_of c.args.lock.now) (history_of turn) start in (
      history_of turn,
      refused_number (fixed_of c.args.lock.now) (history_of turn) c.args.user.now c.args.client.now c.args.seat c.leave.result c.write_checkpoint.new.self c.in-Err-write_checkpoint.fault
          (looks c.args.seat c.leave.result turn c.turn-turn.ensures.seen c.turn-turn.ensures.own c.leave.ensures.seen c.leave.ensures.own) said,
    )
