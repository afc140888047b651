use Rattle.std.proofs.Common.{◌≡◌, take, true}
use Rattle.std.specs.List.{list_all}
use Rattle.ps_definitions.specs.Checks.{is_bound}
use Rattle.ps_rules.proofs.checks.are_bound.Given as goal

-- all branches that were seen
abbrev pub invariant-branches : goal.invariant-branches
invariant-branches l = list_all (is_bound l.names) (take l.branch-index l.branches) ≡ true
