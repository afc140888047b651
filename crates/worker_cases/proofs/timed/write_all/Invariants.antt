-- The seat stays the lock's.
use Rattle.ps_lock.specs.Words.{IsSeatOf}
use Rattle.worker_cases.proofs.timed.write_all.Given as goal

abbrev pub invariant-rounds : goal.invariant-rounds
invariant-rounds g l = IsSeatOf l.place.lock.now l.seat
