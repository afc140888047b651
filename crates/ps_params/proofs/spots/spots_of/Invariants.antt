use Rattle.std.proofs.Common.{◌≡◌, ◌++◌, drop}
use Rattle.ps_params.specs.Spots.{spots_for}
use Rattle.ps_params.proofs.spots.spots_of.Given as goal

-- the spots so far, and those of the values that are left
abbrev pub invariant-values : goal.invariant-values
invariant-values l = l.spots ++ spots_for l.number (drop l.value-index l.values) ≡ spots_for l.number l.values
