use Rattle.std.proofs.Common.{◌≡◌, ◌<◌, ℕ, true, List, [], ◌∷◌, ◌++◌, length, inr, sym, ap, subst, ◌∙◌, arith}
use Rattle.std.specs.List.{IsDistinct, list_any}
use Rattle.std.proofs.lemmas.Result.{err_from_is_err_and}
use Rattle.ps_client_lines.specs.Rows.{shown_row}
use Rattle.ps_client_lines.proofs.Listing.{rows_more, keys_more, distinct_by}
use Rattle.ps_client_lines.proofs.Bad.{Object, object_of, same_object, object_head, shown_heads, objects_same, bad_then, twin_at}
use Rattle.ps_client_lines.proofs.tables.shown_list.Goals as goal

pub rows-preserved : goal.rows-preserved
rows-preserved c =
    let one = c.in_ok-one.one in
    let shown = c.rows.shown in
    let within : c.rows.row-index < length c.args.rows.now = omega arith in
    let copied : c.note.new.seen.keys ≡ c.rows.objects.keys ++ object_of one ∷ [] =
    c.in_ok-note.ensures.keys ∙ ap (λ (k : List ℕ). c.rows.objects.keys ++ (k, c.in_ok-copy-2.field-0) ∷ []) c.in_ok-copy.ensures
    ∙ ap (λ (k : List ℕ). c.rows.objects.keys ++ (one.kind, k) ∷ []) c.in_ok-copy-2.ensures in
    rw c.in_ok-push.ensures.ok (record {
      rows = rows_more shown_row shown one c.args.rows.now c.rows.row-index c.row-item.result within c.row-item.is (sym c.as_slice.ensures ∙ c.in_ok-one.ensures.row) c.rows.invariant.rows;
      objects = keys_more object_of shown one c.rows.objects.keys c.note.new.seen.keys c.rows.invariant.objects copied;
      once = c.in_ok-note.ensures.once;
    })

pub returns-clause-objects : goal.returns-clause-objects
returns-clause-objects c =
    distinct_by object_of same_object c.rows.shown (subst (IsDistinct same_object) c.rows.invariant.objects c.rows.invariant.once)

pub returns-in_err-note-clause-bad : goal.returns-in_err-note-clause-bad
returns-in_err-note-clause-bad c =
    let p = err_from_is_err_and c.from_residual-in_err-note.result c.from_residual-in_err-note.ensures.1 in
    let within : c.rows.row-index < length c.args.rows.now = omega arith in
    let one = c.in_ok-one.one in
    let key : (c.in_ok-copy.field-0, c.in_ok-copy-2.field-0) ≡ object_of one = λ i. (c.in_ok-copy.ensures i, c.in_ok-copy-2.ensures i) in
    rw (p.1, p.2)
    (bad_then c.in_err-note.field-0.0
    (λ twice.
    let here = subst (λ (object : Object). list_any (same_object object) c.rows.objects.keys ≡ true) key twice in
    inr (twin_at c.args.rows.now c.rows.row-index c.row-item.result within c.row-item.is 2 shown_row object_of object_head same_object shown_heads objects_same
    c.rows.shown one c.rows.invariant.rows (sym c.as_slice.ensures ∙ c.in_ok-one.ensures.row)
    (subst (λ (keys : List Object). list_any (same_object (object_of one)) keys ≡ true) c.rows.invariant.objects here)))
    c.in_err-note.ensures.twice)
