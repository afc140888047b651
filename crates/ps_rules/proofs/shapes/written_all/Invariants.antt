use Rattle.std.proofs.Common.{◌≡◌, []}
use Rattle.ps_rules.specs.Shapes.{all_written}
use Rattle.ps_rules.proofs.shapes.written_all.Given as goal

-- what was read stands before what is left to read
abbrev pub invariant-nodes : goal.invariant-nodes
invariant-nodes l = all_written [] l.fn.nodes ≡ all_written l.written l.node-iterator.rest.items
