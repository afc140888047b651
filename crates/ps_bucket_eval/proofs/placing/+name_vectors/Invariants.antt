use Rattle.std.proofs.Common.{◌≡◌, ◌≤◌, ◌++◌, ◌∷◌, [], length, take, drop}
use Rattle.std.specs.Prelude.{flat_map}
use Rattle.ps_data.specs.declared.values.Value.{Value}
use Rattle.ps_bucket_eval.specs.Solving.{names_from, inserted}
use Rattle.ps_bucket_eval.proofs.placing.+name_vectors.Given as goal

-- the names of the vectors with the values so far
abbrev pub invariant-values : goal.invariant-values
invariant-values l = record {
  kept : l.chosen.items ≡ l.fn.chosen.items;
  named : l.found.keys ≡ inserted l.fn.found.keys (flat_map (λ (value : Value). names_from l.definition (l.fn.chosen.items ++ value ∷ []) (drop 1 l.lists)) (take l.value-index l.value-items));
  within : length l.found.keys ≤ l.room;
}

abbrev pub decreases-name_vectors : goal.decreases-name_vectors
decreases-name_vectors l = length l.lists.now
