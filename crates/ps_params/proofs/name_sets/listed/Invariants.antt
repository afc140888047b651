use Rattle.std.proofs.Common.{◌≡◌, ◌++◌}
use Rattle.ps_params.proofs.name_sets.listed.Given as goal

-- the names so far, and those that are left
abbrev pub invariant-names : goal.invariant-names
invariant-names l = l.fn.known.keys ≡ l.names ++ l.name-iterator
