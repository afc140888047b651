use Rattle.std.proofs.Common.{◌+◌, List, [], ◌∷◌, ◌++◌, length, sym, ap, ◌∙◌, subst}
use Rattle.ps_rows.specs.declared.changes.Change.{Change}
use Rattle.ps_rows.specs.declared.changes.Transaction.{Transaction}
use Rattle.ps_lock.specs.Words.{history_of, own_entries_in}
use Rattle.ps_store.specs.declared.events.Event.TheVariants.{Feed}
use Rattle.ps_workers.specs.Sharing.{terms_of, fixed_of}
use Rattle.ps_store.specs.Stores.{StoreStandsFor}
use Rattle.ps_workers.proofs.Narrow.{may_feed}
use Rattle.ps_workers.proofs.Turning.{kept, begins, leaves, leaves_with, looks, adds, refused_upload, upload_stands}
use Rattle.ps_workers.proofs.requests.upload_in_turn.Goals as goal

pub leave_with-requires : goal.leave_with-requires
leave_with-requires g c =
    let turn = c.turn-turn.result in
    let start = begins c.args.lock.now turn c.value.result.now c.value.ensures.value c.turn-turn.ensures.stands in
    let said = c.in-Ok-upload.ensures (fixed_of c.args.lock.now) (history_of turn) start in
    let same = c.in-Ok.ensures ∙ c.as_slice.ensures in
    let copied =
    subst (λ (cs : List Change). StoreStandsFor (fixed_of c.args.lock.now) c.upload.new.self (history_of turn ++ Feed (record { position = c.in-Ok-upload.position; changes = cs }) ∷ [])) (sym same) said.2 in
    let fed : Transaction = record { position = c.in-Ok-upload.position; changes = c.in-Ok.copy } in
    leaves_with c.args.lock.now turn c.value.result.now c.value.ensures.value c.turn-turn.ensures.stands (Feed fed) c.upload.new.self c.turn-turn.ensures.lock copied (may_feed (terms_of c.args.lock.now) c.value.result.now (history_of turn) (kept c.args.lock.now turn c.value.result.now c.value.ensures.value c.turn-turn.ensures.stands) fed)

pub leave-requires : goal.leave-requires
leave-requires g c =
    let turn = c.turn-turn.result in
    let start = begins c.args.lock.now turn c.value.result.now c.value.ensures.value c.turn-turn.ensures.stands in
    let said = c.in-Err-upload.ensures (fixed_of c.args.lock.now) (history_of turn) start in
    let again = upload_stands (fixed_of c.args.lock.now) (history_of turn) c.args.changes c.upload.new.self c.in-Err-upload.fault said in
    leaves c.args.lock.now turn c.value.result.now c.value.ensures.value c.turn-turn.ensures.stands c.upload.new.self c.turn-turn.ensures.lock again

pub returns-in-Ok-upload-clause-turn : goal.returns-in-Ok-upload-clause-turn
returns-in-Ok-upload-clause-turn g c =
    let turn = c.turn-turn.result in
    let start = begins c.args.lock.now turn c.value.result.now c.value.ensures.value c.turn-turn.ensures.stands in
    let said = c.in-Ok-upload.ensures (fixed_of c.args.lock.now) (history_of turn) start in
    let same = c.in-Ok.ensures ∙ c.as_slice.ensures in
    let copied = ap (λ (cs : List Change). history_of turn ++ Feed (record { position = c.in-Ok-upload.position; changes = cs }) ∷ []) same in
    let own = ap (λ (cs : List Change). own_entries_in turn ++ (Feed (record { position = c.in-Ok-upload.position; changes = cs }), length (history_of turn) + 1) ∷ []) same in (
      history_of turn,
      (
        adds c.args.seat c.leave_with.result turn c.turn-turn.ensures.seen c.turn-turn.ensures.own (Feed (record { position = c.in-Ok-upload.position; changes = c.args.changes }))
            (c.leave_with.ensures.seen ∙ copied) (c.leave_with.ensures.own ∙ own),
        said.0,
        said.1,
      ),
    )

pub returns-in-Err-upload-clause-turn : goal.returns-in-Err-upload-clause-turn
returns-in-Err-upload-clause-turn g c =
    let turn = c.turn-turn.result in
    let start = begins c.args.lock.now turn c.value.result.now c.value.ensures.value c.turn-turn.ensures.stands in
    let said = c.in-Err-upload.ensures (fixed_of c.args.lock.now) (history_of turn) start in (
      history_of turn,
      refused_upload (fixed_of c.args.lock.now) (history_of turn) c.args.changes c.args.seat c.leave.result c.upload.new.self c.in-Err-upload.fault
          (looks c.args.seat c.leave.result turn c.turn-turn.ensures.seen c.turn-turn.ensures.own c.leave.ensures.seen c.leave.ensures.own) said,
    )
