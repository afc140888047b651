-- What data queries are evaluated over.
use Rattle.std.specs.Prelude.{ℕ, List}
use Rattle.ps_data.specs.declared.columns.Column.{Column}
use Rattle.ps_data.specs.declared.values.Value.{Value}
use Rattle.ps_data.specs.declared.values.Value.TheVariants.{Null}
use Rattle.ps_queries.specs.Meaning.{Given}
use Rattle.ps_sql_eval.specs.Evaluated.{given_of, nobody}

-- a row, and the values of the parameters; nobody asks
abbrev pub over : List ℕ → List Column → (List ℕ → Value) → Given
over id row bucket = given_of nobody id row bucket

-- a row, for what has no parameter in it
abbrev pub alone : List ℕ → List Column → Given
alone id row = over id row (λ name. Null)
