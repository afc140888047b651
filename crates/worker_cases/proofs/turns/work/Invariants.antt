use Rattle.ps_lock.specs.Words.{IsSeatOf}
use Rattle.worker_cases.proofs.turns.work.Given as goal

abbrev pub invariant-turns : goal.invariant-turns
invariant-turns g l = IsSeatOf l.lock l.seat
