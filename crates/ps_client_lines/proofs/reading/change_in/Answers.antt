use Rattle.std.proofs.Common.{ℕ, List, subst, sym}
use Rattle.ps_changes.specs.LongLines.{IsLongChange}
use Rattle.ps_client_lines.proofs.Bad.{bad_then, unmeant}
use Rattle.ps_client_lines.proofs.reading.change_in.Goals as goal

pub returns-in-Err-clause-bad : goal.returns-in-Err-clause-bad
returns-in-Err-clause-bad c =
    bad_then c.unread.result
    (λ other change is. unmeant c.in-Err.fault change other (c.in-Err.ensures.only change (subst (λ (text : List ℕ). IsLongChange text change) (sym c.bytes.ensures.value) is))) c.unread.ensures
