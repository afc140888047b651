-- The seat stays the lock's.
use Rattle.ps_lock.specs.Words.{IsSeatOf}
use Rattle.worker_cases.proofs.timed.read_new.Given as goal

abbrev pub invariant-buckets : goal.invariant-buckets
invariant-buckets g l = IsSeatOf l.place.lock.now l.seat
