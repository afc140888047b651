-- The object that a data query shows for a row: its id and its data.
use Rattle.std.specs.Prelude.{ℕ, List, [], ◌∷◌, ◌++◌, map, if◌then◌else◌, Option, bytes_eq, codes}
use Rattle.ps_data.specs.declared.columns.Column.{Column}
use Rattle.ps_data.specs.declared.values.Value.{Value}
use Rattle.ps_data.specs.declared.values.Value.TheVariants.{Null, Text}
use Rattle.ps_data.specs.Documents.{document_of}
use Rattle.ps_queries.specs.declared.queries.Output.{Output}
use Rattle.ps_queries.specs.declared.queries.DataQuery.{DataQuery}
use Rattle.ps_queries.specs.Meaning.{Given, value_of, text_of}

-- the value of the first output of a name, or what stands for it where none has that name
abbrev pub value_named : Given → List ℕ → List Output → Value → Value
value_named given name [] otherwise = otherwise
value_named given name (o ∷ os) otherwise = if bytes_eq o.name name then value_of given o.expr else value_named given name os otherwise

-- the output `id`: the written one, or the row's id where `*` shows it
abbrev pub id_value : Given → DataQuery → Value
id_value given query = value_named given (codes "id") query.outputs (if query.star then Text given.id else Null)

-- the object's id is that output's text; where it is Null there is no object
unfoldable pub object_id : Given → DataQuery → Option (List ℕ)
object_id given query = text_of (id_value given query)

abbrev pub output_column : Given → Output → Column
output_column given o = record { name = o.name; value = value_of given o.expr }

-- `*` shows each column; of one name the last counts, so a written output stands in the place of a column
unfoldable pub shown_columns : Given → DataQuery → List Column
shown_columns given query = (if query.star then given.row else []) ++ map (output_column given) query.outputs

-- the object's data: the compact JSON object of all outputs, with its id as a text
unfoldable pub content_of : Given → DataQuery → List ℕ → List ℕ
content_of given query object = document_of object (shown_columns given query)
