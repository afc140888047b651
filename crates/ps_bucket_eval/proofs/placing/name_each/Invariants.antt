use Rattle.std.proofs.Common.{◌≡◌, ◌≤◌, [], ◌∷◌, length, take}
use Rattle.ps_bucket_eval.specs.Solving.{names_from, inserted}
use Rattle.ps_bucket_eval.proofs.placing.name_each.Given as goal

-- the names of the values so far
abbrev pub invariant-values : goal.invariant-values
invariant-values l = record {
  named : l.found.keys ≡ inserted l.fn.found.keys (names_from l.definition [] (take l.value-index l.values ∷ []));
  within : length l.found.keys ≤ l.room;
}
