use Rattle.std.proofs.Common.{◌++◌, ◌<◌, arith}
use Rattle.ps_core.proofs.FedRuns.{going_ends, going_first, going_full, going_on}
use Rattle.ps_core.proofs.feeding.feed.Goals as goal

pub transactions-init : goal.transactions-init
transactions-init c = record {
  low = c.requires.2.low;
  within = omega arith;
  going = λ fixed play it. going_first fixed play c.args.most c.args.store.now c.args.left.now.items it;
}

pub feed_next-requires-clause-stands : goal.feed_next-requires-clause-stands
feed_next-requires-clause-stands c =
    let r = c.requires in
    let g = c.transactions.invariant.going r.0 r.1 r.2 in
    (r.0, r.1.history ++ g.more, g.stands)

pub transactions-preserved : goal.transactions-preserved
transactions-preserved c =
    let below : c.transactions.count < c.args.most = omega (arith, c.from.ensures) in
    record {
      low = c.in_ok-effect.ensures.low;
      within = omega (arith, below);
      going = λ fixed play it.
          let going = c.transactions.invariant.going fixed play it in
          going_on fixed play c.args.most c.transactions.count c.transactions.store c.feed_next.new.store c.transactions.left.items c.feed_next.new.left.items below going
          (rw c.in-None.is at (c.in_ok-effect.ensures.goes fixed (play.history ++ going.more) going.stands));
    }

pub returns-in-Some : goal.returns-in-Some
returns-in-Some c = λ fixed play it.
    let below : c.transactions.count < c.args.most = omega (arith, c.from.ensures) in
    let going = c.transactions.invariant.going fixed play it in
    going_ends fixed play c.args.most c.transactions.count c.transactions.store c.feed_next.new.store c.transactions.left.items c.feed_next.new.left.items c.in-Some.effect below c.in_ok-effect.ensures.low going
    (rw c.in-Some.is at (c.in_ok-effect.ensures.goes fixed (play.history ++ going.more) going.stands))

pub returns : goal.returns
returns c = λ fixed play it.
    going_full fixed play c.args.most c.transactions.count c.transactions.store c.transactions.left.items (omega (arith, c.from.ensures)) c.transactions.invariant.low
    (c.transactions.invariant.going fixed play it)
