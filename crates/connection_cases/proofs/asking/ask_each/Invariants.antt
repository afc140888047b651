use Rattle.ps_lock.specs.Words.{IsSeatOf}
use Rattle.connection_cases.proofs.asking.ask_each.Given as goal

abbrev pub invariant-places : goal.invariant-places
invariant-places g l = IsSeatOf l.lock l.here
