use Rattle.std.proofs.Common.{◌≡◌, map, take, bytes_eq, ◌&&◌}
use Rattle.std.specs.List.{IsDistinct}
use Rattle.ps_client_lines.specs.Rows.{shown_rows}
use Rattle.ps_client_lines.proofs.tables.shown_list.Given as goal

abbrev pub invariant-rows : goal.invariant-rows
invariant-rows l = record {
  rows : shown_rows l.shown ≡ take l.row-index l.rows;
  objects : l.objects.keys ≡ map (λ row. (row.kind, row.id)) l.shown;
  once : IsDistinct (λ a b. bytes_eq a.0 b.0 && bytes_eq a.1 b.1) l.objects.keys;
}
