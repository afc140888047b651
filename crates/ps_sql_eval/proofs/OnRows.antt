-- The vector of a parameter query on a row, as it is found step by step.
use Rattle.std.proofs.Common.{◌≡◌, ℕ, true, not, cond, List, [], ◌∷◌, sym, ap, ◌∙◌}
use Rattle.std.specs.Prelude.{◌&&◌}
use Rattle.std.specs.List.{list_any}
use Rattle.ps_data.specs.declared.values.Value.{Value}
use Rattle.ps_data.specs.Values.{is_null}
use Rattle.ps_queries.specs.declared.queries.ParameterQuery.{ParameterQuery}
use Rattle.ps_queries.specs.declared.askers.Asker.{Asker}
use Rattle.ps_queries.specs.Meaning.{holds}
use Rattle.ps_queries.specs.Vectors.{SourceRow, asked_of, vector_values, vector_on}

module _ (names : List (List ℕ)) (asker : Asker) (query : ParameterQuery) (row : SourceRow) where
  -- where the condition holds, by whether a value is Null
  pub some_where_held : (values : List Value) → holds (asked_of asker row) query.condition ≡ true → values ≡ vector_values names asker query row
      → vector_on names asker query row ≡ cond (not (list_any is_null values)) (values ∷ []) []
  some_where_held values held is =
      ap (λ b. cond (b && not (list_any is_null (vector_values names asker query row))) (vector_values names asker query row ∷ []) []) held
      ∙ ap (λ (vs : List Value). cond (not (list_any is_null vs)) (vs ∷ []) []) (sym is)
