use Rattle.std.proofs.Common.{◌≡◌, true, cond, sym, ap, ◌∙◌}
use Rattle.std.specs.Prelude.{◌&&◌, bytes_eq}
use Rattle.std.specs.List.{list_any}
use Rattle.std.specs.Ordering.{nat_cmp, is_eq}
use Rattle.std.specs.Cmp.{tied_then}
use Rattle.std.specs.Cmp.Lexicographic.{slice_cmp}
use Rattle.std.specs.BTreeMap.{is_at}
use Rattle.std.proofs.lemmas.Map.Text.{is_eq-slice_cmp}
use Rattle.ps_rows.specs.Source.{Key, key_cmp}
use Rattle.ps_params.specs.Trimming.{is_settled, settles}
use Rattle.ps_params.proofs.trimming.settle.Goals as goal
use Rattle.ps_params.proofs.trimming.settle.Goals.{in-Ok-insert, in-Err}

same_key : (a b : Key) → is_eq (key_cmp a b) ≡ (bytes_eq a.0 b.0 && bytes_eq a.1 b.1)
same_key a b = sym (tied_then (slice_cmp nat_cmp a.0 b.0) (slice_cmp nat_cmp a.1 b.1)) ∙ (λ i. is_eq-slice_cmp a.0 b.0 i && is_eq-slice_cmp a.1 b.1 i)

pub returns : goal.returns
returns c = λ table id. elim c.match-insert.branch [
  | in-Ok-insert w ↦ w.in-Ok-insert.ensures.updates.0 (table, id)
      ∙ ap (λ (k : Key). cond (is_eq (key_cmp k (table, id))) true (is_settled c.args.settled.now table id)) c.in-Ok.ensures
      ∙ ap (λ b. cond b true (is_settled c.args.settled.now table id)) (same_key c.args.key.now (table, id))
      ∙ ap (λ b. settles b c.args.key.now (is_settled c.args.settled.now) table id) (sym w.result-is)
  | in-Err w ↦ ap (list_any (is_at (key_cmp (table, id)))) w.in-Err.ensures.err
      ∙ ap (λ b. settles b c.args.key.now (is_settled c.args.settled.now) table id) (sym w.result-is)
]
