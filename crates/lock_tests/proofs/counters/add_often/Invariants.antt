use Rattle.ps_lock.specs.Words.{IsSeatOf}
use Rattle.lock_tests.proofs.counters.add_often.Given as goal

abbrev pub invariant-turns : goal.invariant-turns
invariant-turns g l = IsSeatOf l.fn.lock l.seat
