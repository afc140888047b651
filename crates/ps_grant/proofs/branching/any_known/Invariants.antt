use Rattle.std.proofs.Common.{◌≡◌, drop, List}
use Rattle.std.specs.Prelude.{◌&&◌}
use Rattle.std.specs.List.{list_any}
use Rattle.ps_data.specs.declared.values.Value.{Value}
use Rattle.ps_grant.specs.Solving.{is_same, all_allow}
use Rattle.ps_grant.proofs.branching.any_known.Given as goal

-- none so far is known and allowed
abbrev pub invariant-listed : goal.invariant-listed
invariant-listed l = list_any (λ (v : List Value). list_any (is_same v) l.vectors && all_allow l.names l.all v) l.listed ≡ list_any (λ (v : List Value). list_any (is_same v) l.vectors && all_allow l.names l.all v) (drop l.vector-index l.listed)
