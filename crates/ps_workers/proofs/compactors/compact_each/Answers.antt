use Rattle.std.proofs.Common.{ℕ, List, Err, ap, ◌∙◌, subst}
use Rattle.ps_store.specs.declared.faults.CompactFault.{CompactFault}
use Rattle.ps_lock.specs.Words.{seen_by}
use Rattle.ps_workers.specs.Compacting.{HasCompacted}
use Rattle.ps_workers.specs.Sharing.{terms_of}
use Rattle.ps_workers.specs.Work.{IsOfCompactor}
use Rattle.ps_workers.proofs.Compactor.{take_whole, compacted_none, worked_by, compacted_next, missing_next}
use Rattle.ps_workers.proofs.Working.{worked_none, worked_then}
use Rattle.ps_workers.proofs.compactors.compact_each.Goals as goal
use Rattle.ps_workers.proofs.compactors.compact_each.Goals.{in-Ok, in-Err+in-NoBucket}

pub buckets-init : goal.buckets-init
buckets-init g c = record {
  lock = c.requires.lock;
  worked = worked_none IsOfCompactor c.args.seat;
  compacted = λ plain. compacted_none (terms_of c.args.place.now.lock.now) c.args.names.now (seen_by c.args.seat) c.requires.over;
}

pub buckets-preserved : goal.buckets-preserved
buckets-preserved g c =
    let terms = terms_of c.args.place.now.lock.now in
    let here = c.buckets.here in
    let next = c.compact_in_turn-next.result.0 in
    let turned = c.compact_in_turn-next.ensures.turn in
    let worked = worked_then IsOfCompactor c.args.seat here next c.buckets.invariant.worked (worked_by terms turned.0 c.name-item.result here next c.compact_in_turn-next.result.1 turned.1) in
    elim c.match-compacted.branch [
      | in-Ok w ↦ record {
        lock = c.compact_in_turn-next.ensures.lock;
        worked = worked;
        compacted = compacted_next terms c.totals_tell_histories.ensures.names (seen_by c.args.seat) turned.0 c.args.names.now c.buckets.name-index c.name-item.result here next
            c.compact_in_turn-next.result.1 w.in-Ok.field-0 c.buckets-test.true c.name-item.is w.in-Ok.is c.buckets.invariant.compacted turned.1;
      }
      | in-Err+in-NoBucket w ↦ record {
        lock = c.compact_in_turn-next.ensures.lock;
        worked = worked;
        compacted = missing_next terms c.totals_tell_histories.ensures.names (seen_by c.args.seat) turned.0 c.args.names.now c.buckets.name-index c.name-item.result here next
            c.compact_in_turn-next.result.1 c.buckets-test.true c.name-item.is (w.in-Err.is ∙ ap (λ (f : CompactFault). Err f) w.in-NoBucket.is) c.requires.over c.buckets.invariant.compacted turned.1;
      }
    ]

pub returns-clause-each : goal.returns-clause-each
returns-clause-each g c = λ plain.
    subst (λ (names : List (List ℕ)). HasCompacted (terms_of c.args.place.now.lock.now) (seen_by c.args.seat) (seen_by c.buckets.here) names)
    (take_whole c.buckets.name-index c.args.names.now c.buckets-test.false) (c.buckets.invariant.compacted plain)
