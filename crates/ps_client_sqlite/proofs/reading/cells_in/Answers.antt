use Rattle.std.proofs.Common.{◌≡◌, ◌+◌, ◌<◌, ◌++◌, ◌∷◌, [], length, take, arith}
use Rattle.std.proofs.lemmas.List.{take_more}
use Rattle.sqlite_value.specs.declared.value.Value.TheVariants.{Null}
use Rattle.sqlite.specs.Order.{column}
use Rattle.ps_client_sqlite.specs.Reading.{IsCell}
use Rattle.ps_client_sqlite.proofs.Cells.{alike_more}
use Rattle.ps_client_sqlite.proofs.reading.cells_in.Goals as goal

pub columns-preserved : goal.columns-preserved
columns-preserved c =
    let row = c.args.row.now in
    let at = c.columns.at in
    let within : at < length row = omega arith in
    let more : take (at + 1) row ≡ take at row ++ column row at ∷ [] = take_more row at Null within in
    rw (c.in_ok-push.ensures.ok, more) (alike_more IsCell (take at row) c.columns.cells (column row at) c.in_ok-cell.cell c.columns.invariant c.in_ok-cell.ensures)
