-- What `*` shows with no written output.
use Rattle.std.proofs.Common.{◌≡◌, ℕ, Bool, true, List, [], ◌++◌, map, sym, ap, ◌∙◌, append-nil}
use Rattle.std.specs.Prelude.{if◌then◌else◌}
use Rattle.ps_data.specs.declared.columns.Column.{Column}
use Rattle.ps_data.specs.Documents.{document_of}
use Rattle.ps_queries.specs.declared.queries.Output.{Output}
use Rattle.ps_queries.specs.declared.queries.DataQuery.{DataQuery}
use Rattle.ps_queries.specs.Meaning.{Given}
use Rattle.ps_queries.specs.Objects.{output_column, shown_columns, content_of}

-- the columns that are shown are the row's
pub starred_alone : (given : Given) (query : DataQuery) (object : List ℕ) (columns : List Column) → query.star ≡ true → query.outputs ≡ [] → columns ≡ given.row
    → document_of object columns ≡ content_of given query object
unfolding content_of shown_columns
starred_alone given query object columns star none is =
    ap (document_of object) (is ∙ sym (append-nil given.row) ∙ ap (λ (os : List Output). given.row ++ map (output_column given) os) (sym none)
    ∙ ap (λ (b : Bool). (if b then given.row else []) ++ map (output_column given) query.outputs) (sym star))
