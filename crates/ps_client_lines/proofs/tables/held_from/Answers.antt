use Rattle.std.proofs.Common.{◌≡◌, ◌<◌, ◌≤◌, ◌+◌, ℕ, true, List, [], ◌∷◌, ◌++◌, length, IsTrue, inr, sym, ap, subst, ◌∙◌, arith, rules}
use Rattle.std.specs.List.{list_any}
use Rattle.std.proofs.lemmas.Result.{err_from_is_err_and}
use Rattle.std.proofs.lemmas.List.{length_push}
use Rattle.std.proofs.lemmas.List.Elements.{All-push}
use Rattle.ps_data.specs.Numbers.{greatest}
use Rattle.ps_bucket_log.specs.declared.ops.Key.{Key}
use Rattle.ps_client_log.specs.declared.states.Held.{Held}
use Rattle.ps_client_lines.specs.Rows.{entry_row}
use Rattle.ps_client_lines.proofs.Listing.{rows_more, keys_more}
use Rattle.ps_client_log.specs.Images.{key_eq}
use Rattle.ps_client_lines.proofs.Keys.{keys_apart}
use Rattle.ps_client_lines.proofs.Bad.{bad_then, twin_at, entry_heads, key_head, keys_same}
use Rattle.ps_client_lines.proofs.tables.held_from.Goals as goal

pub rows-preserved : goal.rows-preserved
rows-preserved c =
    let one = c.in_ok-bucket.one in
    let held = c.rows.held in
    let within : c.rows.row-index < length c.args.rows.now = omega arith in
    let equal : IsTrue c.equals.result = search rules in
    let named : c.in_ok-bucket.bucket ≡ c.args.name.now = c.equals.ensures.same.0 equal in
    rw c.in_ok-push.ensures.ok (record {
      rows = rows_more (entry_row c.args.name.now) held one c.args.rows.now c.rows.row-index c.row-item.result within c.row-item.is
          (sym c.as_slice.ensures ∙ c.in_ok-bucket.ensures.row ∙ ap (λ (b : List ℕ). entry_row b one) named) c.rows.invariant.rows;
      count = length_push held one ∙ ap (λ (n : ℕ). n + 1) c.rows.invariant.count;
      ids = All-push (λ (h : Held). h.id.0 ≤ greatest) held one c.rows.invariant.ids c.in_ok-bucket.ensures.bound;
      keys = keys_more (λ (h : Held). h.key) held one c.rows.keys.keys c.note.new.seen.keys c.rows.invariant.keys
          (c.in_ok-note.ensures.keys ∙ ap (λ (k : Key). c.rows.keys.keys ++ k ∷ []) c.in_ok-copy.ensures);
      once = keys_apart c.note.new.seen.keys c.in_ok-note.ensures.once;
    })

pub returns-in_err-note-clause-bad : goal.returns-in_err-note-clause-bad
returns-in_err-note-clause-bad c =
    let p = err_from_is_err_and c.from_residual-in_err-note.result c.from_residual-in_err-note.ensures.1 in
    let within : c.rows.row-index < length c.args.rows.now = omega arith in
    let name = c.args.name.now in
    let one = c.in_ok-bucket.one in
    let equal : IsTrue c.equals.result = search rules in
    let named : c.in_ok-bucket.bucket ≡ name = c.equals.ensures.same.0 equal in
    rw (p.1, p.2)
    (bad_then c.in_err-note.field-0.0
    (λ twice.
    let here = subst (λ (key : Key). list_any (key_eq key) c.rows.keys.keys ≡ true) c.in_ok-copy.ensures twice in
    inr (twin_at c.args.rows.now c.rows.row-index c.row-item.result within c.row-item.is 4 (entry_row name) (λ (h : Held). h.key) (key_head name) key_eq (entry_heads name) keys_same
    c.rows.held one c.rows.invariant.rows (sym c.as_slice.ensures ∙ c.in_ok-bucket.ensures.row ∙ ap (λ (b : List ℕ). entry_row b one) named)
    (subst (λ (keys : List Key). list_any (key_eq one.key) keys ≡ true) c.rows.invariant.keys here)))
    c.in_err-note.ensures.twice)
