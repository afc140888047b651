use Rattle.std.proofs.Common.{◌≡◌, ◌++◌}
use Rattle.ps_definitions.proofs.spreading.both.Given as goal

-- those that were moved, and those that are left
abbrev pub invariant-second : goal.invariant-second
invariant-second l = l.fn.first ++ l.fn.second ≡ l.all ++ l.branch-iterator.rest.items
