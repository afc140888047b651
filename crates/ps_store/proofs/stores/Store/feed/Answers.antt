use Rattle.std.proofs.Common.{◌≤◌, ◌^◌, List, [], ◌∷◌, ◌++◌, ap, ◌∙◌, length, arith}
use Rattle.ps_store.specs.Ledgers.{timed_of, end_of}
use Rattle.ps_store.specs.Originals.{Timed}
use Rattle.ps_store.specs.Reach.{Reached, settled}
use Rattle.ps_store.proofs.Calls.{feed_counts, feed_done}
use Rattle.ps_store.proofs.stores.Store.feed.Goals as goal

pub feed-requires : goal.feed-requires
feed-requires c = feed_counts c.requires.stands.0 c.args.self.now c.requires.stands.1 c.requires.stands.2 c.args.transaction (omega arith) c.requires.position

pub returns : goal.returns
returns c = λ fixed history h.
    let few : length c.args.transaction.changes ≤ 2 ^ 64 = omega (arith, c.len.ensures) in
    feed_done fixed c.args.self.now history h c.args.transaction c.feed-2.new.self c.feed.new.self few c.feed.ensures c.if-self.false (omega arith) c.requires.position
    (c.feed-2.ensures.changes ∙ ap (λ (us : List Timed). us ++ timed_of c.args.transaction) c.in_ok-reserve.ensures.changes)
    (c.feed-2.ensures.reach ∙ ap (λ (r : Reached). settled c.args.self.now.wrote.0 (record r { left = r.left ++ end_of c.args.transaction ∷ [] })) c.in_ok-reserve.ensures.reach)
