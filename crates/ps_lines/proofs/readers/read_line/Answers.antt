use Rattle.ps_lines.proofs.Found.{found_of}
use Rattle.ps_lines.proofs.Only.{only_of}
use Rattle.ps_lines.proofs.readers.read_line.Goals as goal

pub returns-clause-found : goal.returns-clause-found
returns-clause-found c = found_of c.decimals_read_back.ensures c.args.bytes.now _ c.read_whole_line.ensures.exact

pub returns-clause-only : goal.returns-clause-only
returns-clause-only c = only_of c.decimals_read_back.ensures c.args.bytes.now _ c.read_whole_line.ensures.exact
