-- Beginnings of vectors, one more.
use Rattle.std.proofs.Common.{◌≡◌, ℕ, ◌+◌, ◌<◌, List, [], ◌∷◌, ◌++◌, length, drop, get_or, map, sym, ap, ◌∙◌, append_assoc}
use Rattle.ps_data.specs.declared.values.Value.{Value}
use Rattle.ps_grant.specs.Solving.{extended}
use Rattle.ps_grant.proofs.StepLaws.{next_is}

pub front_extended : (fronts : List (List Value)) (i : ℕ) (front values : List Value) (longer more : List (List Value)) → i < length fronts → front ≡ get_or fronts i front
    → more ≡ longer ++ map (λ (v : Value). front ++ v ∷ []) values → more ++ extended (drop (i + 1) fronts) values ≡ longer ++ extended (drop i fronts) values
front_extended fronts i front values longer more within is grown =
    ap (λ (vs : List (List Value)). vs ++ extended (drop (i + 1) fronts) values) grown
    ∙ append_assoc longer (map (λ (v : Value). front ++ v ∷ []) values) (extended (drop (i + 1) fronts) values)
    ∙ ap (λ (xs : List (List Value)). longer ++ extended xs values) (sym (next_is fronts i front within is))
