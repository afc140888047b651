use Rattle.std.proofs.Common.{◌≡◌, [], ◌∷◌, drop}
use Rattle.std.specs.Prelude.{is_some}
use Rattle.std.specs.List.{list_all}
use Rattle.ps_grant.specs.Solving.{values_for, solved}
use Rattle.ps_grant.proofs.solving.solve.Given as goal

-- the names so far have matches, and those that are left go on from the fronts
abbrev pub invariant-names : goal.invariant-names
invariant-names l = record {
  matched : list_all (λ name. is_some (values_for name l.all)) l.names ≡ list_all (λ name. is_some (values_for name l.all)) (drop l.name-index l.names);
  fronts : solved l.all ([] ∷ []) l.names ≡ solved l.all l.fronts (drop l.name-index l.names);
}
