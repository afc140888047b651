use Rattle.std.proofs.Common.{◌≡◌, drop}
use Rattle.serde_json.specs.View.{members_view}
use Rattle.ps_data.specs.Documents.{with_columns, members_of}
use Rattle.ps_values.proofs.documents.object_of_columns.Given as goal

abbrev pub invariant-columns : goal.invariant-columns
invariant-columns l = with_columns (members_view l.object.entries) (drop l.column-index l.columns) ≡ members_of l.columns
