use Rattle.ps_lock.specs.Words.{IsSeatOf}
use Rattle.worker_cases.proofs.threads.feed_all.Given as goal

-- the seat stays the lock's
abbrev pub invariant-transactions : goal.invariant-transactions
invariant-transactions g l =
    (goal.iterator-transactions g).can_next l.transaction-iterator ×
    (goal.iterator-transactions g).is_finite l.transaction-iterator ×
    IsSeatOf l.fn.lock l.seat
