use Rattle.std.proofs.Common.{◌≡◌, ℕ, false, List, sym, subst}
use Rattle.ps_lock.specs.Words.{seen_by}
use Rattle.ps_store.specs.Histories.{has_deploy}
use Rattle.ps_workers.specs.Compacting.{IsOverWith, HasCompacted}
use Rattle.ps_workers.specs.Sharing.{terms_of}
use Rattle.ps_workers.specs.Work.{IsOfCompactor}
use Rattle.ps_workers.proofs.Compactor.{over_with, ends_drained, where_ok}
use Rattle.ps_workers.proofs.Working.{worked_looking, worked_then}
use Rattle.ps_workers.proofs.compactors.compact_last.Goals as goal

pub compact_each-seat-requires-clause-over : goal.compact_each-seat-requires-clause-over
compact_each-seat-requires-clause-over g c =
    let terms = terms_of c.args.place.now.lock.now in
    let read = c.names_in_turn-seat.result in
    let turned = c.names_in_turn-seat.ensures.turn in
    subst (λ (names : List (List ℕ)). IsOverWith terms names (seen_by read.0)) (sym c.as_slice.ensures)
    (over_with terms turned.0 c.args.seat read.0 read.1 read.2 c.in-Ok.names c.in-Ok.is turned.1 (c.is_drained.ensures.0 c.if-not-is_drained.false))

pub returns-then-is_drained-clause-goes_on : goal.returns-then-is_drained-clause-goes_on
returns-then-is_drained-clause-goes_on g c =
    let terms = terms_of c.args.place.now.lock.now in
    let read = c.names_in_turn-seat.result in
    let turned = c.names_in_turn-seat.ensures.turn in
    let each = c.compact_each-seat.result in
    let last = c.look_in_turn-seat.result in
    let looked = c.look_in_turn-seat.ensures.turn in
    let names = c.as_slice.result.now in
    let over = subst (λ (ns : List (List ℕ)). IsOverWith terms ns (seen_by read.0)) (sym c.as_slice.ensures)
    (over_with terms turned.0 c.args.seat read.0 read.1 read.2 c.in-Ok.names c.in-Ok.is turned.1 (c.is_drained.ensures.0 c.if-not-is_drained.false)) in
    let compacted = where_ok (has_deploy (seen_by each.0) ≡ false → HasCompacted terms (seen_by read.0) (seen_by each.0) names) each.1 c.in-Ok-done.field-0 c.in-Ok-done.is
    c.compact_each-seat.ensures.each in
    let to_each = worked_then IsOfCompactor c.args.seat read.0 each.0 (worked_looking IsOfCompactor turned.0 c.args.seat read.0 turned.1.looks.looks) c.compact_each-seat.ensures.worked in
    record {
      worked = worked_then IsOfCompactor c.args.seat each.0 last.0 to_each (worked_looking IsOfCompactor looked.0 each.0 last.0 looked.1.looks);
      ends = ends_drained terms looked.0 (seen_by read.0) each.0 last.0 last.1 names over compacted looked.1 (c.is_drained-2.ensures.0 c.if-is_drained.true);
    }

pub returns-clause-goes_on : goal.returns-clause-goes_on
returns-clause-goes_on g c =
    let read = c.names_in_turn-seat.result in
    let turned = c.names_in_turn-seat.ensures.turn in
    let each = c.compact_each-seat.result in
    let last = c.look_in_turn-seat.result in
    let looked = c.look_in_turn-seat.ensures.turn in
    let to_each = worked_then IsOfCompactor c.args.seat read.0 each.0 (worked_looking IsOfCompactor turned.0 c.args.seat read.0 turned.1.looks.looks) c.compact_each-seat.ensures.worked in
    worked_then IsOfCompactor c.args.seat each.0 last.0 to_each (worked_looking IsOfCompactor looked.0 each.0 last.0 looked.1.looks)
