use Rattle.std.proofs.Common.{◌+◌, refl, sym, ◌∙◌, subst, arith}
use Rattle.std.proofs.lemmas.List.{drop_all}
use Rattle.ps_audit.specs.Counts.{is_wide}
use Rattle.ps_audit.proofs.Counted.{CountsOn, counts_first, counts_more, counts_all, any_next}
use Rattle.ps_audit.proofs.counting.count_changes.Goals as goal

pub changes-init : goal.changes-init
changes-init c = record {
  narrow = refl;
  counts = λ source position stands. counts_first c.args.rules.now.definitions c.args.standing.now source position c.args.changes.now stands;
}

pub changes-preserved : goal.changes-preserved
changes-preserved c = record {
  narrow = any_next (is_wide c.args.rules.now.definitions) c.args.changes.now c.changes.change-index c.change-item.result c.changes-test.true c.change-item.is c.in_ok-count.ensures.wide ∙ c.changes.invariant.narrow;
  counts = λ source position stands.
      subst (λ n. CountsOn c.args.rules.now.definitions c.count_change.new.standing source position (c.changes.change-index + 1) n c.args.changes.now) (sym c.in_ok-total.ensures)
      (counts_more c.args.rules.now.definitions c.changes.standing c.count_change.new.standing source position c.changes.change-index c.changes.total c.in_ok-count.count c.args.changes.now c.change-item.result
      c.changes-test.true c.change-item.is c.in_ok-count.ensures.counted c.in_ok-count.ensures.stands (c.changes.invariant.counts source position stands));
}

pub returns-clause-counted : goal.returns-clause-counted
returns-clause-counted c = λ source position stands.
    (counts_all c.args.rules.now.definitions c.changes.standing source position c.changes.change-index c.changes.total c.args.changes.now (drop_all c.changes.change-index c.args.changes.now (omega arith))
    (c.changes.invariant.counts source position stands)).0

pub returns-clause-stands : goal.returns-clause-stands
returns-clause-stands c = λ source position stands.
    (counts_all c.args.rules.now.definitions c.changes.standing source position c.changes.change-index c.changes.total c.args.changes.now (drop_all c.changes.change-index c.args.changes.now (omega arith))
    (c.changes.invariant.counts source position stands)).1
