use Rattle.std.proofs.lemmas.Result.{IfErr-weaker}
use denote.Param.Send.{sendable}
use Rattle.std.proofs.Crossing.{crosses}
use Rattle.ps_lock.proofs.tables.Seat.TheSendSync as seats
use Rattle.ps_lock.proofs.tables.StoreLock.TheSendSync as locks
use Rattle.ps_sockets.proofs.bells.Rings.TheSendSync as rings
use Rattle.ps_workers.proofs.ends.WorkEnd.TheSendSync as ends
use Rattle.ps_workers.proofs.Sent.{shared_send}
use Rattle.ps_serving.proofs.running.take_beside.Goals as goal

pub spawn_scoped_with-begun-requires-send-F : goal.spawn_scoped_with-begun-requires-send-F
spawn_scoped_with-begun-requires-send-F g c κs within =
    let runtime = c.type_bounds.sync-R in
    search (sendable, crosses, shared_send, seats.the_field_send, locks.the_sync, rings.the_sync) depth 40

pub spawn_scoped_with-begun-requires-send-T : goal.spawn_scoped_with-begun-requires-send-T
spawn_scoped_with-begun-requires-send-T g c κs within = search (sendable, crosses, shared_send, seats.the_field_send, ends.the_field_send) depth 40

pub returns-clause-compactor : goal.returns-clause-compactor
returns-clause-compactor g c =
    let begun = c.spawn_scoped_with-begun in
    let said = c.finish.ensures _ begun.ensures.ok (IfErr-weaker begun.result _ _ (λ refused same r done. rw c.of.ensures (rw same at done)) begun.ensures.err) in
    rw c.of.ensures at said
