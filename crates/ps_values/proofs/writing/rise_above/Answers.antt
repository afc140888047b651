use Rattle.std.proofs.Common.{◌≡◌, Greater, nat_cmp, rules}
use Rattle.std.specs.Cmp.Lexicographic.{slice_cmp}
use Rattle.ps_values.proofs.Written.{rise_more}
use Rattle.ps_values.proofs.writing.rise_above.Goals as goal

pub columns-preserved : goal.columns-preserved
columns-preserved c = λ rest.
    let column = c.column-item.result in
    let above : slice_cmp nat_cmp column.name c.columns.last.now ≡ Greater = search rules in
    c.columns.invariant (rise_more c.args.columns.now c.columns.column-index column c.columns.last.now c.columns-test.true c.column-item.is above rest)
