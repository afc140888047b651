use Rattle.std.proofs.Common.{◌≡◌, ◌≤◌, map, take, bytes_eq}
use Rattle.std.specs.List.{All, IsDistinct}
use Rattle.ps_data.specs.Numbers.{greatest}
use Rattle.ps_client_lines.specs.Rows.{bucket_row}
use Rattle.ps_client_lines.proofs.tables.bucket_lines.Given as goal

abbrev pub invariant-rows : goal.invariant-rows
invariant-rows l = record {
  rows : map bucket_row l.lines.items ≡ take l.row-index l.rows;
  positions : All (λ line. line.position.0 ≤ greatest) l.lines.items;
  names : l.names.keys ≡ map (λ line. line.name) l.lines.items;
  once : IsDistinct bytes_eq l.names.keys;
}
