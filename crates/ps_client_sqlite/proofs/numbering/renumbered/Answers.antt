use Rattle.std.proofs.Common.{◌≡◌, ◌<ℤ◌, ◌+ℤ◌, pos, w64, rules, arith, refl}
use mir.Val.{SFits, to_z}
use Rattle.std.proofs.lemmas.Int.{ints, to_z-of_z}
use Rattle.std.proofs.lemmas.List.{map-append}
use Rattle.ps_client_lines.specs.declared.lines.Queued.{Queued}
use Rattle.ps_client_sqlite.proofs.Ranks.{rising_push, below_push, under_push, numbers_push, last_push}
use Rattle.ps_client_sqlite.proofs.numbering.renumbered.Goals as goal

pub lines-preserved : goal.lines-preserved
lines-preserved c =
    let seq = c.in-Some-checked_add.seq in
    let inv = c.lines.invariant in
    let fits : SFits w64 seq = search rules in
    let was = to_z w64 c.lines.last-bits in
    let next : seq ≡ was +ℤ pos 1 = c.in-Some-checked_add.ensures.1 in
    let up : was <ℤ seq = omega (arith, ints) in
    let x : Queued = record { seq = seq; text = c.in-Some.line.text; change = c.in-Some.line.change } in
    rw (c.in_ok-push.ensures.items, to_z-of_z w64 seq fits) (record {
      changes = rw (map-append, inv.changes, map-append) refl;
      texts = rw (map-append, inv.texts, map-append) refl;
      rising = rising_push c.lines.all.items x inv.rising (under_push c.lines.all.items was seq inv.low up);
      low = below_push c.lines.all.items x was seq inv.low up refl;
      numbers = numbers_push c.lines.all.items x was inv.numbers inv.last next;
      last = last_push c.lines.all.items x was inv.last next;
    })
