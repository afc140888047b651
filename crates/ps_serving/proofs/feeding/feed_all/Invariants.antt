use Rattle.std.proofs.Common.{◌≡◌, ◌≤◌, ◌++◌, All}
use Rattle.ps_lock.specs.Words.{IsSeatOf, seen_by}
use Rattle.ps_rows.specs.declared.changes.Transaction.{Transaction}
use Rattle.ps_store.specs.Limits.{greatest}
use Rattle.ps_serving.specs.Openings.{feeds_of}
use Rattle.ps_serving.proofs.feeding.feed_all.Given as goal

-- what was seen, and the Feeds of those that are left, are the Feeds of all
abbrev pub invariant-feeds : goal.invariant-feeds
invariant-feeds g l = record {
  lock : IsSeatOf l.lock l.here;
  fed : seen_by l.here ++ feeds_of l.transaction-iterator.rest.items ≡ feeds_of l.fn.transactions.items;
  positions : All (λ (t : Transaction). t.position.0 ≤ greatest) l.transaction-iterator.rest.items;
}
