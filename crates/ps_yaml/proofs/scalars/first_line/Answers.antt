use Rattle.ps_yaml.proofs.Utf8.{unindented_text}
use Rattle.ps_yaml.proofs.scalars.first_line.Goals as goal

pub returns-clause-utf8 : goal.returns-clause-utf8
returns-clause-utf8 c = let u = unindented_text c.args.depth c.args.line.now.text c.text.ensures.utf8 in cc (c.in_ok-from_slice.ensures.items)
