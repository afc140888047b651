use Rattle.std.proofs.Common.{◌≡◌, []}
use Rattle.ps_yaml.specs.Trees as words
use Rattle.ps_yaml.proofs.trees.items_at.Given as goal

abbrev pub invariant-items : goal.invariant-items
invariant-items l = words.items_at l.turns l.shared l.indent [] l.lines ≡ words.items_at l.left l.shared l.indent l.items l.rest

abbrev pub decreases-items : goal.decreases-items
decreases-items l = l.left
