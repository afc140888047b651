use Rattle.ps_lines.proofs.ReadLines.{read_writable}
use Rattle.ps_lines.proofs.laws.lines_read_can_be_written.Goals as goal

pub returns : goal.returns
returns c = read_writable c.decimals_read_back.ensures
