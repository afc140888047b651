use Rattle.ps_changes.proofs.Spelling.{lone_change_found, lone_change_only}
use Rattle.ps_changes.proofs.laws.lone_changes_are_spelled.Goals as goal

pub returns : goal.returns
returns c = λ bytes change. (lone_change_found bytes change, lone_change_only bytes change)
