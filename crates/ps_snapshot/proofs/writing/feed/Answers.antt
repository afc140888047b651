use Rattle.std.proofs.Common.{◌≡◌, true, false, Err, refl, sym, ap, ◌∙◌, arith}
use Rattle.ps_store.specs.Ledgers.{head_of}
use Rattle.ps_snapshot.proofs.Pending.{fed_more}
use Rattle.ps_snapshot.proofs.writing.feed.Goals as goal

pub returns-in-Ok : goal.returns-in-Ok
returns-in-Ok c = λ fixed fed h later. fed_more fixed fed 0 c.args.store.now h c.args.transaction c.feed.new.self refl (rw c.in-Ok.is at (c.feed.ensures fixed h.history h.stands))

pub unreachable-requires : goal.unreachable-requires
unreachable-requires c =
    let k = c.requires.written in
    let refused = rw (c.in-Err-FeedClosed.is ∙ ap Err c.in-Err-FeedClosed.field-0-is) at (c.feed.ensures k.0 k.2.history k.2.stands) in
    let wrong : true ≡ false = sym refused.0 ∙ k.2.feed_open in cc

pub unreachable-requires-in-Err-NotRising : goal.unreachable-requires-in-Err-NotRising
unreachable-requires-in-Err-NotRising c =
    let k = c.requires.written in
    let refused = rw (c.in-Err-NotRising.is ∙ ap Err c.in-Err-NotRising.field-0-is) at (c.feed.ensures k.0 k.2.history k.2.stands) in
    omega (arith, refused.1, ap head_of k.2.fed_are, k.3)
