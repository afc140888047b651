use Rattle.std.proofs.Common.{◌≡◌, drop, List}
use Rattle.std.specs.List.{list_any, AllByRecursion}
use Rattle.ps_data.specs.declared.values.Value.{Value}
use Rattle.ps_definitions.specs.Meeting.{meets_some}
use Rattle.ps_granted.specs.Grants.{given_for}
use Rattle.ps_grant.specs.Solving.{IsUnbound}
use Rattle.ps_queries.specs.Vectors.{at_row}
use Rattle.ps_grant.proofs.branching.some_branch_is_met.Given as goal

-- none so far is met
abbrev pub invariant-branches : goal.invariant-branches
invariant-branches l = record {
  met : list_any (λ (v : List Value). meets_some (given_for l.asker l.names (at_row l.id l.row) v) l.branches) l.vectors ≡ list_any (λ (v : List Value). meets_some (given_for l.asker l.names (at_row l.id l.row) v) (drop l.branch-index l.branches)) l.vectors;
  unbound : AllByRecursion IsUnbound (drop l.branch-index l.branches);
}
