use Rattle.std.proofs.Common.{length, ◌+◌, ap, ◌∙◌, ◌∷◌, [], ◌++◌, sym, subst}
use Rattle.ps_rows.specs.declared.changes.Transaction.{Transaction}
use Rattle.ps_lock.specs.Words.{history_of, own_entries_in}
use Rattle.ps_store.specs.declared.events.Event.TheVariants.{Feed}
use Rattle.ps_workers.specs.Sharing.{terms_of, fixed_of}
use Rattle.ps_store.specs.Stores.{StoreStandsFor}
use Rattle.ps_workers.proofs.Narrow.{may_feed}
use Rattle.ps_workers.proofs.Turning.{kept, begins, leaves, leaves_with, looks, adds, refused_feed, refused_stands}
use Rattle.ps_workers.proofs.turns.feed_in_turn.Goals as goal

pub leave_with-requires : goal.leave_with-requires
leave_with-requires g c =
    let turn = c.turn-turn.result in
    let start = begins c.args.lock.now turn c.value.result.now c.value.ensures.value c.turn-turn.ensures.stands in
    let said = c.in-Ok-feed.ensures (fixed_of c.args.lock.now) (history_of turn) start in
    let copied = subst (λ (t : Transaction). StoreStandsFor (fixed_of c.args.lock.now) c.feed.new.self (history_of turn ++ Feed t ∷ [])) (sym c.in-Ok.ensures) said in
    leaves_with c.args.lock.now turn c.value.result.now c.value.ensures.value c.turn-turn.ensures.stands (Feed c.in-Ok.copy) c.feed.new.self c.turn-turn.ensures.lock copied (may_feed (terms_of c.args.lock.now) c.value.result.now (history_of turn) (kept c.args.lock.now turn c.value.result.now c.value.ensures.value c.turn-turn.ensures.stands) c.in-Ok.copy)

pub leave-requires : goal.leave-requires
leave-requires g c =
    let turn = c.turn-turn.result in
    let start = begins c.args.lock.now turn c.value.result.now c.value.ensures.value c.turn-turn.ensures.stands in
    let said = c.in-Err-feed.ensures (fixed_of c.args.lock.now) (history_of turn) start in
    leaves c.args.lock.now turn c.value.result.now c.value.ensures.value c.turn-turn.ensures.stands c.feed.new.self c.turn-turn.ensures.lock (refused_stands (fixed_of c.args.lock.now) (history_of turn) c.args.transaction c.feed.new.self c.in-Err-feed.fault said)

pub returns-in-Err-feed-clause-turn : goal.returns-in-Err-feed-clause-turn
returns-in-Err-feed-clause-turn g c =
    let turn = c.turn-turn.result in
    let start = begins c.args.lock.now turn c.value.result.now c.value.ensures.value c.turn-turn.ensures.stands in
    let said = c.in-Err-feed.ensures (fixed_of c.args.lock.now) (history_of turn) start in (
      history_of turn,
      refused_feed (fixed_of c.args.lock.now) (history_of turn) c.args.transaction c.args.seat c.leave.result c.feed.new.self c.in-Err-feed.fault
          (looks c.args.seat c.leave.result turn c.turn-turn.ensures.seen c.turn-turn.ensures.own c.leave.ensures.seen c.leave.ensures.own) said,
    )

pub returns-in-Ok-feed-clause-turn : goal.returns-in-Ok-feed-clause-turn
returns-in-Ok-feed-clause-turn g c =
    let turn = c.turn-turn.result in
    let copied = ap (λ (t : Transaction). history_of turn ++ Feed t ∷ []) c.in-Ok.ensures in
    let own = ap (λ (t : Transaction). own_entries_in turn ++ (Feed t, length (history_of turn) + 1) ∷ []) c.in-Ok.ensures in
    (history_of turn, adds c.args.seat c.leave_with.result turn c.turn-turn.ensures.seen c.turn-turn.ensures.own (Feed c.args.transaction) (c.leave_with.ensures.seen ∙ copied) (c.leave_with.ensures.own ∙ own))
