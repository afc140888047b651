-- The seat stays the lock's.
use Rattle.ps_lock.specs.Words.{IsSeatOf}
use Rattle.worker_cases.proofs.timed.read_all.Given as goal

abbrev pub invariant-streams : goal.invariant-streams
invariant-streams g l = IsSeatOf l.place.lock.now l.seat
