use Rattle.std.proofs.lemmas.Result.{IfErr-weaker}
use denote.Param.Send.{sendable}
use Rattle.std.proofs.Crossing.{crosses}
use Rattle.ps_lock.proofs.tables.Seat.TheSendSync as seats
use Rattle.ps_lock.proofs.tables.StoreLock.TheSendSync as locks
use Rattle.ps_sockets.proofs.bells.Rings.TheSendSync as rings
use Rattle.ps_workers.proofs.ends.WorkEnd.TheSendSync as ends
use Rattle.ps_workers.proofs.Sent.{shared_send}
use Rattle.ps_serving.proofs.RulesSent.{next_send}
use Rattle.ps_serving.proofs.running.run_beside.Goals as goal

pub spawn_scoped_with-begun-requires-send-F : goal.spawn_scoped_with-begun-requires-send-F
spawn_scoped_with-begun-requires-send-F g c κs within =
    let runtime = c.type_bounds.sync-R in
    search (sendable, crosses, shared_send, next_send, seats.the_field_send, locks.the_sync, rings.the_sync) depth 40

pub spawn_scoped_with-begun-requires-send-T : goal.spawn_scoped_with-begun-requires-send-T
spawn_scoped_with-begun-requires-send-T g c κs within = search (sendable, crosses, shared_send, seats.the_field_send, ends.the_field_send) depth 40

pub returns-clause-writer : goal.returns-clause-writer
returns-clause-writer g c =
    let begun = c.spawn_scoped_with-begun in
    let said = c.finish.ensures _ begun.ensures.ok (IfErr-weaker begun.result _ _ (λ refused same r done. rw (c.of.ensures, c.of-2.ensures, c.of-3.ensures) (rw same at done)) begun.ensures.err) in
    (rw (c.of.ensures, c.of-2.ensures, c.of-3.ensures) at said).0

pub returns-clause-wrote : goal.returns-clause-wrote
returns-clause-wrote g c =
    let begun = c.spawn_scoped_with-begun in
    let said = c.finish.ensures _ begun.ensures.ok (IfErr-weaker begun.result _ _ (λ refused same r done. rw (c.of.ensures, c.of-2.ensures, c.of-3.ensures) (rw same at done)) begun.ensures.err) in
    (rw (c.of.ensures, c.of-2.ensures, c.of-3.ensures) at said).1
