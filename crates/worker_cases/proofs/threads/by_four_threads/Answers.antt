use denote.Param.Send.{sendable}
use Rattle.std.proofs.Crossing.{crosses}
use Rattle.ps_data.proofs.lists.Items.TheSendSync as items
use Rattle.ps_rows.proofs.changes.Transaction.TheSendSync as transactions
use Rattle.ps_lock.proofs.tables.Seat.TheSendSync as seats
use Rattle.ps_lock.proofs.tables.StoreLock.TheSendSync as locks
use Rattle.ps_workers.proofs.Sent.{shared_send}
use Rattle.worker_cases.proofs.threads.by_four_threads.Goals as goal

pub join-seat-requires-send-F : goal.join-seat-requires-send-F
join-seat-requires-send-F g c κs within =
    let shared = c.type_bounds.sync-R in
    search (sendable, crosses, shared_send, seats.the_field_send, locks.the_sync, items.the_send, transactions.the_send) depth 40

pub join-seat-requires-send-A : goal.join-seat-requires-send-A
join-seat-requires-send-A g c κs within = search (sendable, crosses, shared_send, seats.the_send, seats.the_field_send) depth 40
