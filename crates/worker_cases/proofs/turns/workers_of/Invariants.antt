use Rattle.ps_lock.specs.Words.{IsSeatOf}
use Rattle.worker_cases.proofs.turns.workers_of.Given as goal

abbrev pub invariant-workers : goal.invariant-workers
invariant-workers l = IsSeatOf l.fn.lock l.seat
