use Rattle.ps_file_lines.proofs.Cutting.{lines_by}
use Rattle.ps_file_lines.proofs.lines.split_line.Goals as goal

pub returns : goal.returns
returns c = lines_by c.args.bytes.now c.cut.result.0.now c.cut.result.1 c.cut.ensures.front c.cut.ensures.rest c.cut.ensures.shorter
