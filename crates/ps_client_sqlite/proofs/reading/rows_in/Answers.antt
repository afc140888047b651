use Rattle.std.proofs.Common.{◌≡◌, ◌+◌, ◌<◌, ◌++◌, ◌∷◌, [], length, take, arith, sym, ap, ◌∙◌}
use Rattle.std.proofs.lemmas.List.{take_more}
use Rattle.sqlite.specs.Order.{Row}
use Rattle.ps_client_sqlite.specs.Reading.{AreCells}
use Rattle.ps_client_sqlite.proofs.Cells.{alike_more}
use Rattle.ps_client_sqlite.proofs.reading.rows_in.Goals as goal

pub rows-preserved : goal.rows-preserved
rows-preserved c =
    let rows = c.args.rows.now in
    let i = c.rows.row-index in
    let row = c.row-item.result in
    let within : i < length rows = omega arith in
    let more : take (i + 1) rows ≡ take i rows ++ row ∷ [] = take_more rows i row within ∙ ap (λ (r : Row). take i rows ++ r ∷ []) (sym c.row-item.is) in
    rw (c.in_ok-push.ensures.ok, more) (alike_more AreCells (take i rows) c.rows.all row c.in_ok-cells.cells c.rows.invariant c.in_ok-cells.ensures)
