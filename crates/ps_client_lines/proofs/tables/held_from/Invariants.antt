use Rattle.std.proofs.Common.{◌≡◌, ◌≤◌, map, take, length}
use Rattle.std.specs.List.{All, IsDistinct}
use Rattle.ps_data.specs.Numbers.{greatest}
use Rattle.ps_bucket_log.specs.Ops.{same_key}
use Rattle.ps_client_lines.specs.Rows.{entry_row}
use Rattle.ps_client_lines.proofs.tables.held_from.Given as goal

abbrev pub invariant-rows : goal.invariant-rows
invariant-rows l = record {
  rows : map (entry_row l.name) l.held ≡ take l.row-index l.rows;
  count : length l.held ≡ l.row-index;
  ids : All (λ one. one.id.0 ≤ greatest) l.held;
  keys : l.keys.keys ≡ map (λ one. one.key) l.held;
  once : IsDistinct same_key l.keys.keys;
}
