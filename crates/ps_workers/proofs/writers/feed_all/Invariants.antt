use Rattle.std.proofs.Common.{◌≡◌, ℕ, ◌≤◌, ◌++◌, All, Option}
use Rattle.ps_lock.specs.Words.{IsSeatOf}
use Rattle.ps_rows.specs.declared.changes.Transaction.{Transaction}
use Rattle.ps_store.specs.Limits.{greatest}
use Rattle.ps_workers.specs.declared.stages.NextRules.{NextRules}
use Rattle.ps_workers.specs.Work.{HasWritten}
use Rattle.ps_workers.proofs.writers.feed_all.Given as goal

-- the writer fed the transactions so far
abbrev pub invariant-transactions : goal.invariant-transactions
invariant-transactions g l = record {
  lock : IsSeatOf l.place.lock.now l.here;
  given : l.yielded ++ l.transaction-iterator.rest.items ≡ l.fn.transactions.items;
  positions : All (λ (t : Transaction). t.position.0 ≤ greatest) l.transaction-iterator.rest.items;
  fed : (next : Option NextRules) (batch : ℕ) → HasWritten next batch l.yielded l.fn.seat l.here;
}
