use Rattle.ps_lock.specs.Words.{IsSeatOf}
use Rattle.connection_cases.proofs.sinks.do_behind.Given as goal

abbrev pub invariant-deeds : goal.invariant-deeds
invariant-deeds g l = IsSeatOf l.lock l.here
