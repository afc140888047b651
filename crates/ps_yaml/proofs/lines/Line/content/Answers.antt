use Rattle.ps_yaml.specs.Lines.{content}
use Rattle.ps_yaml.proofs.Utf8.{content_text}
use Rattle.ps_yaml.proofs.lines.Line.content.Goals as goal

pub returns-clause-utf8 : goal.returns-clause-utf8
unfolding content
returns-clause-utf8 c = let u = content_text c.args.self.now c.text.ensures.utf8 in cc
