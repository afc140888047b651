use Rattle.std.proofs.Common.{◌≡◌}
use Rattle.ps_yaml.specs.Scalars as words
use Rattle.ps_yaml.proofs.scalars.unindented.Given as goal

abbrev pub invariant-indent : goal.invariant-indent
invariant-indent l = words.unindented l.depth l.text ≡ words.unindented l.left l.rest

abbrev pub decreases-indent : goal.decreases-indent
decreases-indent l = l.left
