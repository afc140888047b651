use Rattle.std.proofs.Common.{◌≡◌, suc, ◌≤◌, List, [], ◌∷◌, ◌++◌, All, Result, sym, ap, ◌∙◌, subst, append_assoc, arith}
use Rattle.ps_rows.specs.declared.changes.Transaction.{Transaction}
use Rattle.ps_store.specs.Limits.{greatest}
use Rattle.ps_workers.specs.declared.ends.WorkEnd.{WorkEnd}
use Rattle.ps_workers.specs.Sharing.{fixed_of}
use Rattle.ps_workers.specs.Writing.{FeedsOne}
use Rattle.ps_workers.proofs.Working.{written_none}
use Rattle.ps_workers.proofs.Writer.{stops_feeding, feeds_more}
use Rattle.ps_workers.proofs.writers.feed_all.Goals as goal

pub transactions-init : goal.transactions-init
transactions-init g c = record {
  lock = c.requires.seat;
  given = c.into_iter-transaction-iterator.ensures.into_iter_gives.0;
  positions = subst (All (λ (x : Transaction). x.position.0 ≤ greatest)) (sym c.into_iter-transaction-iterator.ensures.into_iter_gives.0) c.requires.positions;
  fed = λ next batch. written_none next batch c.args.seat;
}

pub returns-in-Err-clause-feeds : goal.returns-in-Err-clause-feeds
returns-in-Err-clause-feeds g c = λ next batch.
    let fixed = fixed_of c.args.place.now.lock.now in
    let inv = c.transactions.invariant in
    let t = c.in-Some.transaction in
    let left = c.next.new.self.rest.items in
    let done = c.transactions.yielded in
    let here = c.transactions.here in
    let later = c.feed_one-next.result.0 in
    let turned = c.feed_one-next.ensures.feeds in
    let whole : done ++ t ∷ left ≡ c.args.transactions.items = ap (λ (ts : List Transaction). done ++ ts) (sym c.in-Some.ensures.steps.0) ∙ inv.given in
    let refused = subst (λ (r : Result (Unit {0}) WorkEnd). FeedsOne fixed turned.0 t here later r) c.in-Err.is turned.1 in
    stops_feeding fixed next batch turned.0 c.args.transactions.items done t left c.args.seat here later c.in-Err.end (sym whole) (inv.fed next batch) refused

pub transactions-preserved : goal.transactions-preserved
transactions-preserved g c =
    let fixed = fixed_of c.args.place.now.lock.now in
    let inv = c.transactions.invariant in
    let t = c.in-Some.transaction in
    let left = c.next.new.self.rest.items in
    let done = c.transactions.yielded in
    let here = c.transactions.here in
    let later = c.feed_one-next.result.0 in
    let turned = c.feed_one-next.ensures.feeds in
    let low : All (λ (x : Transaction). x.position.0 ≤ greatest) (t ∷ left) = subst (All (λ (x : Transaction). x.position.0 ≤ greatest)) c.in-Some.ensures.steps.0 inv.positions in
    record {
      lock = c.feed_one-next.ensures.lock;
      given = append_assoc done (t ∷ []) left ∙ (ap (λ (ts : List Transaction). done ++ ts) (sym c.in-Some.ensures.steps.0) ∙ inv.given);
      positions = λ k d less. low (suc k) d (omega arith);
      fed = λ next batch. feeds_more fixed next batch turned.0 done t c.args.seat here later c.feed_one-next.result.1 c.in_default.field-0 c.in_default.is (inv.fed next batch) turned.1;
    }
