-- The seat stays the lock's.
use Rattle.ps_lock.specs.Words.{IsSeatOf}
use Rattle.worker_cases.proofs.timed.read_bucket.Given as goal

abbrev pub invariant-batches : goal.invariant-batches
invariant-batches g l = IsSeatOf l.place.lock.now l.seat
