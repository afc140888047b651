use Rattle.std.proofs.Common.{◌∙◌, suc, ◌≤◌, ◌∷◌, ◌++◌, All, ap, sym, subst, arith}
use Rattle.ps_lock.specs.Words.{seen_by}
use Rattle.ps_rows.specs.declared.changes.Transaction.{Transaction}
use Rattle.ps_store.specs.Limits.{greatest}
use Rattle.ps_serving.specs.Openings.{feeds_of}
use Rattle.ps_serving.proofs.FedSoFar.{fed_more}
use Rattle.ps_serving.proofs.feeding.feed_all.Goals as goal

pub feeds-init : goal.feeds-init
feeds-init g c =
    let given = c.into_iter-transaction-iterator.ensures.into_iter_gives.0 in
    record {
      lock = c.requires.seat;
      fed = ap (λ s. s ++ feeds_of c.into_iter-transaction-iterator.result.rest.items) c.requires.new ∙ ap feeds_of given;
      positions = subst (All (λ (x : Transaction). x.position.0 ≤ greatest)) (sym given) c.requires.positions;
    }

pub feeds-preserved : goal.feeds-preserved
feeds-preserved g c =
    let low : All (λ (x : Transaction). x.position.0 ≤ greatest) (c.in-Some.transaction ∷ c.next.new.self.rest.items) =
    subst (All (λ (x : Transaction). x.position.0 ≤ greatest)) c.in-Some.ensures.steps.0 c.feeds.invariant.positions in
    record {
      lock = c.in_ok-next.ensures.lock;
      fed = fed_more (seen_by c.feeds.here) (seen_by c.in_ok-next.next) (feeds_of c.args.transactions.items) c.in-Some.transaction c.feeds.transaction-iterator.rest.items
          c.next.new.self.rest.items c.feeds.invariant.fed c.in-Some.ensures.steps.0 c.in_ok-next.ensures.seen;
      positions = λ k d less. low (suc k) d (omega arith);
    }
