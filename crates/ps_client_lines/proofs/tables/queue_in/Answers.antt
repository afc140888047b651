use Rattle.std.proofs.Common.{◌≡◌, ◌<◌, ◌-◌, ◌<ℤ◌, List, All, length, Some, false, IsTrue, inr, rules, arith, w64, subst, sym, ◌∙◌}
use Rattle.std.specs.Prelude.{slice_get}
use mir.Val.{SFits}
use Rattle.std.proofs.lemmas.Int.{to_z-of_z}
use Rattle.std.proofs.lemmas.List.Elements.{All-push}
use Rattle.std.proofs.lemmas.List.Quantifiers.{all_pairs_push}
use Rattle.ps_changes.specs.LongLines.{IsLongChange}
use Rattle.ps_client_lines.specs.declared.lines.Queued.{Queued}
use Rattle.ps_client_lines.specs.Rows.{queued_row}
use Rattle.ps_client_lines.proofs.Listing.{rows_more}
use Rattle.ps_client_lines.proofs.Bad.{fall_at}
use Rattle.ps_client_lines.proofs.tables.queue_in.Goals as goal

pub rows-preserved : goal.rows-preserved
rows-preserved c =
    let line = c.in_ok-line.line in
    let queue = c.rows.queue in
    let fits : SFits w64 line.seq = search rules in
    let within : c.rows.row-index < length c.args.rows.now = omega arith in
    let past : IsTrue c.is_past.result = search rules in
    let low = subst (λ (ls : List Queued). All (λ l. l.seq <ℤ line.seq) ls) c.as_slice-in-rows.ensures (rw (to_z-of_z w64 line.seq fits) at (c.is_past.ensures.past past)) in
    rw c.in_ok-push.ensures.ok (record {
      rows = rows_more queued_row queue line c.args.rows.now c.rows.row-index c.row-item.result within c.row-item.is (sym c.as_slice.ensures ∙ c.in_ok-line.ensures.row) c.rows.invariant.rows;
      rising = all_pairs_push (λ (a b : Queued). a.seq <ℤ b.seq) queue line c.rows.invariant.rising low;
      texts = All-push (λ (l : Queued). IsLongChange l.text l.change) queue line c.rows.invariant.texts c.in_ok-line.ensures.change;
    })

pub returns-then-not-is_past-clause-bad : goal.returns-then-not-is_past-clause-bad
returns-then-not-is_past-clause-bad c =
    let line = c.in_ok-line.line in
    let fits : SFits w64 line.seq = search rules in
    let within : c.rows.row-index < length c.args.rows.now = omega arith in
    let no : c.is_past.result ≡ false = search rules in
    let last = rw (to_z-of_z w64 line.seq fits) at (c.is_past.ensures.none no) in
    let there = subst (λ (ls : List Queued). slice_get ls (length ls - 1) ≡ Some last.0) c.as_slice-in-rows.ensures last.1 in
    inr (fall_at c.args.rows.now c.rows.row-index c.row-item.result within c.row-item.is c.rows.queue last.0 line c.rows.invariant.rows (sym c.as_slice.ensures ∙ c.in_ok-line.ensures.row) there last.2)
