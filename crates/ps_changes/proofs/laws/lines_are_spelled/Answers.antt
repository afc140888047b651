use Rattle.ps_changes.proofs.Spelling.{line_found, line_only}
use Rattle.ps_changes.proofs.laws.lines_are_spelled.Goals as goal

pub returns : goal.returns
returns c = λ bytes transaction. (line_found c.decimals_read_back.ensures bytes transaction, line_only c.decimals_read_back.ensures bytes transaction)
