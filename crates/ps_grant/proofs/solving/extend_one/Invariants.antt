use Rattle.std.proofs.Common.{◌≡◌, ◌++◌, [], ◌∷◌, map, take}
use Rattle.ps_data.specs.declared.values.Value.{Value}
use Rattle.ps_grant.proofs.solving.extend_one.Given as goal

-- those so far
abbrev pub invariant-values : goal.invariant-values
invariant-values l = l.longer ≡ l.initial.longer ++ map (λ (v : Value). l.front ++ v ∷ []) (take l.value-index l.values)
