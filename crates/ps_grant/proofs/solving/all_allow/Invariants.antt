use Rattle.std.proofs.Common.{◌≡◌, drop}
use Rattle.std.specs.List.{list_all}
use Rattle.ps_grant.specs.Solving.{allows_vector}
use Rattle.ps_grant.proofs.solving.all_allow.Given as goal

-- all so far allow it
abbrev pub invariant-all : goal.invariant-all
invariant-all l = list_all (allows_vector l.names l.vector) l.all ≡ list_all (allows_vector l.names l.vector) (drop l.one-index l.all)
