-- What a parameter query gives on a row: the values of its outputs, one for each parameter.
use Rattle.std.specs.Prelude.{ℕ, not, ◌&&◌, if◌then◌else◌, List, [], ◌∷◌, map, bytes_eq}
use Rattle.std.specs.List.{list_any}
use Rattle.ps_data.specs.declared.columns.Column.{Column}
use Rattle.ps_data.specs.declared.values.Value.{Value}
use Rattle.ps_data.specs.declared.values.Value.TheVariants.{Null}
use Rattle.ps_data.specs.Values.{is_null}
use Rattle.ps_queries.specs.declared.queries.Output.{Output}
use Rattle.ps_queries.specs.declared.queries.ParameterQuery.{ParameterQuery}
use Rattle.ps_queries.specs.declared.askers.Asker.{Asker}
use Rattle.ps_queries.specs.Meaning.{Given, value_of, holds}

-- a row of a table
pub record SourceRow : Type 0 where
  pub table : List ℕ
  pub id : List ℕ
  pub row : List Column

-- a row whose table does not matter
abbrev pub at_row : List ℕ → List Column → SourceRow
at_row id row = record { table = []; id = id; row = row }

-- what a parameter query is evaluated over: no parameter stands in it
abbrev pub asked_of : Asker → SourceRow → Given
asked_of asker source = record { asker = asker; id = source.id; row = source.row; bucket = λ name. Null }

-- the value of the output of a name
abbrev pub output_value : Given → List Output → List ℕ → Value
output_value given [] name = Null
output_value given (o ∷ os) name = if bytes_eq o.name name then value_of given o.expr else output_value given os name

-- the outputs in the order of the parameters' names, where the condition holds and none is Null
abbrev pub vector_values : List (List ℕ) → Asker → ParameterQuery → SourceRow → List Value
vector_values names asker query source = map (output_value (asked_of asker source) query.outputs) names

abbrev pub vector_on : List (List ℕ) → Asker → ParameterQuery → SourceRow → List (List Value)
vector_on names asker query source =
    if holds (asked_of asker source) query.condition && not (list_any is_null (vector_values names asker query source)) then vector_values names asker query source ∷ [] else []
