use Rattle.std.proofs.Common.{◌≡◌, drop}
use Rattle.std.specs.List.{list_any}
use Rattle.ps_grant.specs.Solving.{is_equal_to}
use Rattle.ps_grant.proofs.solving.is_one_of.Given as goal

-- it equals none so far
abbrev pub invariant-allowed : goal.invariant-allowed
invariant-allowed l = list_any (is_equal_to l.value) l.allowed ≡ list_any (is_equal_to l.value) (drop l.one-index l.allowed)
