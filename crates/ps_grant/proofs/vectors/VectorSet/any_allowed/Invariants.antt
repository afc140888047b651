use Rattle.std.proofs.Common.{◌≡◌, map}
use Rattle.std.specs.List.{list_any}
use Rattle.ps_grant.specs.Solving.{all_allow}
use Rattle.ps_grant.proofs.vectors.VectorSet.any_allowed.Given as goal

-- none so far is allowed
abbrev pub invariant-known : goal.invariant-known
invariant-known l =
    (goal.iterator-known).can_next l.vector-iterator ×
    (goal.iterator-known).is_finite l.vector-iterator ×
    (list_any (all_allow l.names l.all) l.self ≡ list_any (all_allow l.names l.all) (map (λ v. v.items) l.vector-iterator))
