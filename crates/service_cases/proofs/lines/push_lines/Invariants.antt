use Rattle.ps_session.specs.Kept.{state_of}
use Rattle.service_cases.specs.Serving.{IsOver}
use Rattle.service_cases.proofs.lines.push_lines.Given as goal

-- the session goes over the store
abbrev pub invariant-turns : goal.invariant-turns
invariant-turns l = IsOver l.store l.session.asker (state_of l.session)
