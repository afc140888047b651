use Rattle.std.proofs.Common.{[], ◌∷◌, ◌++◌}
use Rattle.ps_yaml.specs.Scalars.{unindented}
use Rattle.ps_yaml.proofs.Utf8.{unindented_text, with_byte, joined}
use Rattle.ps_yaml.proofs.scalars.push_line.Goals as goal

pub returns-clause-utf8 : goal.returns-clause-utf8
returns-clause-utf8 c = λ h.
    let u = unindented_text c.args.depth c.args.line.now.text c.text.ensures.utf8 in
    let w = joined (c.args.text.now.items ++ c.args.joint ∷ []) (unindented c.args.depth c.args.line.now.text) (with_byte c.args.text.now.items c.args.joint c.requires h) u in
    cc (c.in_ok-push.ensures.items, c.in_ok-extend_from_slice.ensures.items)
