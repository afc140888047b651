use Rattle.ps_yaml.proofs.Utf8.{value_text, behind_spaces}
use Rattle.ps_yaml.specs.Trees.{value_offset}
use Rattle.ps_yaml.proofs.trees.scalar_offset.Goals as goal

pub returns-clause-utf8 : goal.returns-clause-utf8
returns-clause-utf8 c =
    let v = value_text c.args.line.now c.requires c.text.ensures.utf8 in
    let w = behind_spaces c.args.line.now.text (value_offset c.args.line.now) v in
    cc
