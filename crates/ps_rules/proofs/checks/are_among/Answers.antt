use Rattle.std.proofs.Common.{◌∙◌}
use Rattle.ps_rules.proofs.NameLaws.{among_outputs}
use Rattle.ps_rules.proofs.checks.are_among.Goals as goal

pub returns : goal.returns
returns c = c.has_each.ensures ∙ among_outputs c.args.outputs.now c.args.names.now
