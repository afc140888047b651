use Rattle.std.proofs.Common.{◌≡◌, []}
use Rattle.ps_rules.specs.Shapes.{sections_of}
use Rattle.ps_rules.proofs.shapes.sections.Given as goal

-- what was read stands before what is left to read
abbrev pub invariant-pairs : goal.invariant-pairs
invariant-pairs l = sections_of [] l.fn.pairs ≡ sections_of l.found l.pair-iterator.rest.items
