use Rattle.std.proofs.Common.{true, false, Err, sym, ap, ◌∙◌}
use Rattle.std.proofs.lemmas.List.{at_drop_all}
use Rattle.ps_snapshot.specs.Types.{NotCovered}
use Rattle.ps_snapshot.specs.FirstCopies.{first_open, is_whole}
use Rattle.ps_snapshot.specs.Judging.{unless_open}
use Rattle.ps_snapshot.proofs.Looking.{open_step}
use Rattle.ps_snapshot.proofs.progress.Progress.expect_whole.Goals as goal

pub tables-init : goal.tables-init
tables-init c = λ copy h. ap (first_open copy.reached) (sym h.tables ∙ sym c.as_slice-table-items.ensures)

pub tables-preserved : goal.tables-preserved
tables-preserved c = λ copy h.
    let x = c.table-item.result in
    c.tables.invariant copy h
    ∙ open_step copy.reached c.as_slice-table-items.result.now c.tables.table-index x true c.tables-test.true c.table-item.is
    (ap is_whole (sym (h.reached x)) ∙ sym c.is_whole.ensures ∙ c.if-not-is_whole.false)

pub returns-then-not-is_whole : goal.returns-then-not-is_whole
returns-then-not-is_whole c = λ copy h.
    let x = c.table-item.result in
    ap (λ o. unless_open {A = Unit {0}} o tt)
    (c.tables.invariant copy h
    ∙ open_step copy.reached c.as_slice-table-items.result.now c.tables.table-index x false c.tables-test.true c.table-item.is
    (ap is_whole (sym (h.reached x)) ∙ sym c.is_whole.ensures ∙ c.if-not-is_whole.true))
    ∙ ap (λ t. Err (NotCovered t)) (sym c.in_ok-table.ensures)

pub returns : goal.returns
returns c = λ copy h.
    ap (λ o. unless_open {A = Unit {0}} o tt)
    (c.tables.invariant copy h ∙ at_drop_all (first_open copy.reached) c.as_slice-table-items.result.now c.tables.table-index c.tables-test.false)
