use Rattle.std.proofs.Common.{◌≡◌, ◌+◌, ◌*◌, ◌≤◌, []}
use Rattle.ps_yaml.specs.Trees as words
use Rattle.ps_yaml.proofs.trees.+tree.Given as goal

abbrev pub decreases-pairs_at : goal.decreases-pairs_at
decreases-pairs_at l = 3 * l.turns

abbrev pub decreases-below : goal.decreases-below
decreases-below l = 3 * l.turns + 1

abbrev pub decreases-value_at : goal.decreases-value_at
decreases-value_at l = 3 * l.turns + 2

abbrev pub invariant-pairs_at-pairs : goal.invariant-pairs_at-pairs
invariant-pairs_at-pairs l = record {
  value : words.pairs_at l.turns l.indent [] l.lines ≡ words.pairs_at l.left l.indent l.map l.rest;
  within : l.left ≤ l.turns;
}

abbrev pub decreases-pairs_at-pairs : goal.decreases-pairs_at-pairs
decreases-pairs_at-pairs l = l.left
