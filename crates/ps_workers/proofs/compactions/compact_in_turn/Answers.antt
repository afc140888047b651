use Rattle.std.proofs.Common.{List, ℕ, ◌+◌, [], ◌∷◌, ◌++◌, length, sym, ap, ◌∙◌, subst}
use Rattle.ps_lock.specs.Words.{history_of, own_entries_in}
use Rattle.ps_store.specs.declared.events.Event.TheVariants.{Compact}
use Rattle.ps_store.specs.Stores.{StoreStandsFor}
use Rattle.ps_workers.specs.Sharing.{terms_of, fixed_of}
use Rattle.ps_workers.proofs.Narrow.{may_compact}
use Rattle.ps_workers.proofs.Turning.{kept, begins, keeps, keeps_more, leaves, leaves_with, looks, adds, refused_compaction, compaction_stands}
use Rattle.ps_workers.proofs.compactions.compact_in_turn.Goals as goal

pub leave_with-requires : goal.leave_with-requires
leave_with-requires g c =
    let turn = c.turn-turn.result in
    let start = begins c.args.lock.now turn c.value.result.now c.value.ensures.value c.turn-turn.ensures.stands in
    let said = c.in-Ok-compact.ensures (fixed_of c.args.lock.now) (history_of turn) start in
    let copied = subst (λ (b : List ℕ). StoreStandsFor (fixed_of c.args.lock.now) c.compact.new.self (history_of turn ++ Compact b ∷ [])) (sym c.in-Ok.ensures) said.1 in
    leaves_with c.args.lock.now turn c.value.result.now c.value.ensures.value c.turn-turn.ensures.stands (Compact c.in-Ok.copy) c.compact.new.self c.turn-turn.ensures.lock copied (may_compact (terms_of c.args.lock.now) c.value.result.now (history_of turn) (kept c.args.lock.now turn c.value.result.now c.value.ensures.value c.turn-turn.ensures.stands) c.in-Ok.copy)

pub leave-requires : goal.leave-requires
leave-requires g c =
    let turn = c.turn-turn.result in
    let start = begins c.args.lock.now turn c.value.result.now c.value.ensures.value c.turn-turn.ensures.stands in
    let said = c.in-Err-compact.ensures (fixed_of c.args.lock.now) (history_of turn) start in
    let again = compaction_stands (fixed_of c.args.lock.now) (history_of turn) c.args.bucket.now c.compact.new.self c.in-Err-compact.fault said in
    leaves c.args.lock.now turn c.value.result.now c.value.ensures.value c.turn-turn.ensures.stands c.compact.new.self c.turn-turn.ensures.lock again

pub returns-in-Ok-compact-clause-turn : goal.returns-in-Ok-compact-clause-turn
returns-in-Ok-compact-clause-turn g c =
    let turn = c.turn-turn.result in
    let start = begins c.args.lock.now turn c.value.result.now c.value.ensures.value c.turn-turn.ensures.stands in
    let said = c.in-Ok-compact.ensures (fixed_of c.args.lock.now) (history_of turn) start in
    let copied = ap (λ (b : List ℕ). history_of turn ++ Compact b ∷ []) c.in-Ok.ensures in
    let own = ap (λ (b : List ℕ). own_entries_in turn ++ (Compact b, length (history_of turn) + 1) ∷ []) c.in-Ok.ensures in (
      history_of turn,
      (
        adds c.args.seat c.leave_with.result turn c.turn-turn.ensures.seen c.turn-turn.ensures.own (Compact c.args.bucket.now) (c.leave_with.ensures.seen ∙ copied) (c.leave_with.ensures.own ∙ own),
        (_, keeps_more c.args.lock.now turn c.value.result.now c.value.ensures.value c.turn-turn.ensures.stands (Compact c.args.bucket.now) c.compact.new.self said.1 (may_compact (terms_of c.args.lock.now) c.value.result.now (history_of turn) (kept c.args.lock.now turn c.value.result.now c.value.ensures.value c.turn-turn.ensures.stands) c.args.bucket.now)),
        said.0,
      ),
    )

pub returns-in-Err-compact-clause-turn : goal.returns-in-Err-compact-clause-turn
returns-in-Err-compact-clause-turn g c =
    let turn = c.turn-turn.result in
    let start = begins c.args.lock.now turn c.value.result.now c.value.ensures.value c.turn-turn.ensures.stands in
    let said = c.in-Err-compact.ensures (fixed_of c.args.lock.now) (history_of turn) start in (
      history_of turn,
      refused_compaction (terms_of c.args.lock.now) (history_of turn) c.args.bucket.now c.args.seat c.leave.result c.compact.new.self c.in-Err-compact.fault
          (_, keeps c.args.lock.now turn c.value.result.now c.value.ensures.value c.turn-turn.ensures.stands c.compact.new.self (compaction_stands (fixed_of c.args.lock.now) (history_of turn) c.args.bucket.now c.compact.new.self c.in-Err-compact.fault said))
          (looks c.args.seat c.leave.result turn c.turn-turn.ensures.seen c.turn-turn.ensures.own c.leave.ensures.seen c.leave.ensures.own) said,
    )
