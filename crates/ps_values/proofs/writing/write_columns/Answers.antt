use Rattle.std.proofs.Common.{◌≡◌, ◌∙◌, ◌+◌, ◌++◌, drop, sym, ap}
use Rattle.serde_json.specs.Data.{member}
use Rattle.ps_data.specs.Documents.{data_of}
use Rattle.ps_values.specs.Writing.{members_tokens, listed, with_id}
use Rattle.ps_values.proofs.Written.{listed_more}
use Rattle.ps_values.proofs.writing.write_columns.Goals as goal

pub columns-preserved : goal.columns-preserved
columns-preserved c =
    let old = c.columns in
    let column = c.column-item.result in
    let rest = listed (drop (old.column-index + 1) c.args.columns.now) in
    let next : member c.as_str.result.now (data_of column.value) rest ≡ listed (drop old.column-index c.args.columns.now) =
    ap (λ name. member name (data_of column.value) rest) c.as_str.ensures.value ∙ sym (listed_more c.args.columns.now old.column-index column c.columns-test.true c.column-item.is) in
    record {
      written = c.in_ok-told.ensures.written rest ∙ ap (λ left. old.writer.tokens ++ members_tokens (with_id old.told c.args.id.now left)) next ∙ old.invariant.written;
      before = c.write_next.ensures.before ∙ old.invariant.before;
    }
