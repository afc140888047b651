use Rattle.std.proofs.Common.{◌≡◌, ◌∙◌, ◌+◌, drop, ap}
use Rattle.serde_json.specs.Data.{put}
use Rattle.ps_data.specs.Documents.{data_of, with_columns}
use Rattle.ps_values.specs.Writing.{paired}
use Rattle.ps_values.proofs.Objects.{column_more}
use Rattle.ps_values.proofs.Written.{paired-insert_entry}
use Rattle.ps_values.proofs.writing.sorted.Goals as goal

pub columns-preserved : goal.columns-preserved
columns-preserved c =
    let old = c.columns in
    let column = c.column-item.result in
    let more : paired c.insert.new.self.entries ≡ put column.name (data_of column.value) (paired old.pairs.entries) =
    ap paired c.in_ok-insert.ensures.entries ∙ paired-insert_entry old.pairs.entries _ _ ∙ ap (λ name. put name (data_of column.value) (paired old.pairs.entries)) c.as_str.ensures.value in
    ap (λ members. with_columns members (drop (old.column-index + 1) c.args.columns.now)) more
    ∙ column_more (paired old.pairs.entries) c.args.columns.now old.column-index column c.columns-test.true c.column-item.is ∙ old.invariant
