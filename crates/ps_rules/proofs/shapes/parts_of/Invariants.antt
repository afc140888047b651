use Rattle.std.proofs.Common.{◌≡◌}
use Rattle.ps_rules.specs.Shapes.{parts_of, no_parts}
use Rattle.ps_rules.proofs.shapes.parts_of.Given as goal

-- what was read stands before what is left to read
abbrev pub invariant-pairs : goal.invariant-pairs
invariant-pairs l = parts_of no_parts l.fn.pairs ≡ parts_of l.parts l.pair-iterator.rest.items
