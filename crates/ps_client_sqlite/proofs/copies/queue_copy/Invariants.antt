use Rattle.std.proofs.Common.{◌≡◌, take}
use Rattle.ps_client_sqlite.proofs.copies.queue_copy.Given as goal

abbrev pub invariant-queue : goal.invariant-queue
invariant-queue l = l.copies ≡ take l.line-index l.queue
