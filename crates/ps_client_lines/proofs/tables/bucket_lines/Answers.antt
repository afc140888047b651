use Rattle.std.proofs.Common.{◌≡◌, ◌<◌, ◌≤◌, ℕ, true, List, [], ◌∷◌, ◌++◌, length, inl, inr, sym, ap, subst, ◌∙◌, arith}
use Rattle.std.specs.Prelude.{bytes_eq}
use Rattle.std.specs.List.{list_any}
use Rattle.std.proofs.lemmas.Result.{err_from_is_err_and}
use Rattle.std.proofs.lemmas.List.Elements.{All-push}
use Rattle.ps_data.specs.Numbers.{greatest}
use Rattle.ps_client_lines.specs.declared.lines.BucketLine.{BucketLine}
use Rattle.ps_client_lines.specs.declared.cells.Cell.TheVariants.{Text}
use Rattle.ps_client_lines.specs.Rows.{Row, bucket_row}
use Rattle.ps_client_lines.specs.Refusing.{IsBucketRow}
use Rattle.ps_client_lines.proofs.Listing.{rows_more, keys_more}
use Rattle.ps_client_lines.proofs.Bad.{bad_then, other_at, twin_at, bucket_heads, bytes_same}
use Rattle.ps_client_lines.proofs.tables.bucket_lines.Goals as goal

pub rows-preserved : goal.rows-preserved
rows-preserved c =
    let line = c.in_ok-line.line in
    let lines = c.rows.lines.items in
    let within : c.rows.row-index < length c.args.rows.now = omega arith in
    rw c.in_ok-push.ensures.items (record {
      rows = rows_more bucket_row lines line c.args.rows.now c.rows.row-index c.row-item.result within c.row-item.is (sym c.as_slice.ensures ∙ c.in_ok-line.ensures.row) c.rows.invariant.rows;
      positions = All-push (λ (l : BucketLine). l.position.0 ≤ greatest) lines line c.rows.invariant.positions c.in_ok-line.ensures.position;
      names = keys_more (λ (l : BucketLine). l.name) lines line c.rows.names.keys c.note.new.seen.keys c.rows.invariant.names
          (c.in_ok-note.ensures.keys ∙ ap (λ (t : List ℕ). c.rows.names.keys ++ t ∷ []) c.in_ok-copy.ensures);
      once = c.in_ok-note.ensures.once;
    })

pub returns-in_err-line-clause-bad : goal.returns-in_err-line-clause-bad
returns-in_err-line-clause-bad c =
    let p = err_from_is_err_and c.from_residual.result c.from_residual.ensures.1 in
    let within : c.rows.row-index < length c.args.rows.now = omega arith in
    rw (p.1, p.2)
    (bad_then c.in_err-line.field-0.0
    (λ not. inl (other_at c.args.rows.now c.rows.row-index c.row-item.result within c.row-item.is IsBucketRow (subst (λ (row : Row). ¬ IsBucketRow row) c.as_slice.ensures not)))
    c.in_err-line.ensures.bad)

pub returns-in_err-note-clause-bad : goal.returns-in_err-note-clause-bad
returns-in_err-note-clause-bad c =
    let p = err_from_is_err_and c.from_residual-in_err-note.result c.from_residual-in_err-note.ensures.1 in
    let within : c.rows.row-index < length c.args.rows.now = omega arith in
    let line = c.in_ok-line.line in
    let lines = c.rows.lines.items in
    rw (p.1, p.2)
    (bad_then c.in_err-note.field-0.0
    (λ twice.
    let here = subst (λ (name : List ℕ). list_any (bytes_eq name) c.rows.names.keys ≡ true) c.in_ok-copy.ensures twice in
    inr (twin_at c.args.rows.now c.rows.row-index c.row-item.result within c.row-item.is 1 bucket_row (λ (l : BucketLine). l.name) (λ (name : List ℕ). Text name ∷ []) bytes_eq bucket_heads bytes_same
    lines line c.rows.invariant.rows (sym c.as_slice.ensures ∙ c.in_ok-line.ensures.row)
    (subst (λ (keys : List (List ℕ)). list_any (bytes_eq line.name) keys ≡ true) c.rows.invariant.names here)))
    c.in_err-note.ensures.twice)
