use Rattle.std.proofs.Common.{true, cond, ap, ◌∙◌}
use Rattle.std.specs.Ordering.{nat_cmp, is_eq}
use Rattle.std.specs.Cmp.Lexicographic.{slice_cmp}
use Rattle.ps_snapshot.proofs.Looking.{listed_step}
use Rattle.ps_snapshot.proofs.progress.list_tables.Goals as goal

pub tables-preserved : goal.tables-preserved
tables-preserved c = λ table.
    c.in_ok-insert.ensures.updates.0 table
    ∙ ap (λ b. cond (is_eq (slice_cmp nat_cmp c.in_ok-copy.field-0 table)) true b) (c.tables.invariant table)
    ∙ listed_step c.args.tables.now c.tables.table-index c.table-item.result table c.in_ok-copy.field-0 c.tables-test.true c.table-item.is c.in_ok-copy.ensures
