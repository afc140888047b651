use Rattle.ps_lock.specs.Words.{IsSeatOf}
use Rattle.connection_cases.proofs.answer_lines.Given as goal

abbrev pub invariant-lines : goal.invariant-lines
invariant-lines g l = IsSeatOf l.lock l.here
