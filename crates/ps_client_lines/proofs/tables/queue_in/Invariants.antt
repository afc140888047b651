use Rattle.std.proofs.Common.{◌≡◌, take}
use Rattle.std.specs.List.{All}
use Rattle.ps_changes.specs.LongLines.{IsLongChange}
use Rattle.ps_client_lines.specs.Rows.{queue_rows}
use Rattle.ps_client_lines.specs.Holding.{AreRising}
use Rattle.ps_client_lines.proofs.tables.queue_in.Given as goal

abbrev pub invariant-rows : goal.invariant-rows
invariant-rows l = record {
  rows : queue_rows l.queue ≡ take l.row-index l.rows;
  rising : AreRising l.queue;
  texts : All (λ line. IsLongChange line.text line.change) l.queue;
}
