use Rattle.std.proofs.Common.{◌≡◌, map, take}
use Rattle.ps_client_sqlite.specs.Writing.{queued_pair}
use Rattle.ps_client_sqlite.proofs.differences.queued_rows.Given as goal

abbrev pub invariant-queue : goal.invariant-queue
invariant-queue l = l.rows.items ≡ map queued_pair (take l.line-index l.queue)
