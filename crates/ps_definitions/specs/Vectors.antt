-- The vectors of a definition's parameters that an asker has over the rows of a source.
use Rattle.std.specs.Prelude.{ℕ, if◌then◌else◌, List, [], ◌∷◌, filter, Option, Some, None, bytes_eq}
use Rattle.std.specs.List.{flat_map}
use Rattle.ps_data.specs.declared.values.Value.{Value}
use Rattle.ps_data.specs.declared.values.Value.TheVariants.{Null}
use Rattle.ps_queries.specs.declared.queries.ParameterQuery.{ParameterQuery}
use Rattle.ps_queries.specs.declared.askers.Asker.{Asker}
use Rattle.ps_queries.specs.Vectors.{SourceRow, vector_on}
use Rattle.ps_definitions.specs.declared.definitions.Definition.{Definition}

-- what a query without FROM reads in place of a row: the empty id and no columns
abbrev pub no_row : SourceRow
no_row = record { table = []; id = []; row = [] }

-- the rows that a query reads: those of its table, or the one that is none
abbrev pub rows_read : Option (List ℕ) → List SourceRow → List SourceRow
rows_read None source = no_row ∷ []
rows_read (Some table) source = filter (λ (r : SourceRow). bytes_eq r.table table) source

-- those of a query on the rows that it reads
abbrev pub query_vectors : List (List ℕ) → Asker → List SourceRow → ParameterQuery → List (List Value)
query_vectors names asker source query = flat_map (vector_on names asker query) (rows_read query.table source)

-- one empty vector where there is no parameter query, else those of all queries; one may stand more than once
abbrev pub parameter_vectors : Definition → Asker → List SourceRow → List (List Value)
parameter_vectors definition asker source = vectors_of definition.parameters where
  vectors_of : List ParameterQuery → List (List Value)
  vectors_of [] = [] ∷ []
  vectors_of (first ∷ others) = flat_map (query_vectors definition.names asker source) (first ∷ others)

-- the value of each parameter in a vector
abbrev pub vector_at : List (List ℕ) → List Value → List ℕ → Value
vector_at [] values name = Null
vector_at (n ∷ names) [] name = Null
vector_at (n ∷ names) (v ∷ values) name = if bytes_eq n name then v else vector_at names values name
