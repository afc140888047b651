use denote.Param.Send.{sendable}
use Rattle.std.proofs.Crossing.{crosses}
use Rattle.ps_lock.proofs.tables.Seat.TheSendSync as seats
use Rattle.ps_lock.proofs.tables.StoreLock.TheSendSync as locks
use Rattle.ps_sockets.proofs.bells.RungBell.TheSendSync as bells
use Rattle.ps_serve.proofs.ends.End.TheSendSync as ends
use Rattle.ps_serve.proofs.sites.Site.TheSendSync as sites
use Rattle.ps_workers.proofs.Sent.{shared_send}
use Rattle.ps_connections.proofs.starting.start.Goals as goal

pub spawn_scoped_with-started-requires-send-F : goal.spawn_scoped_with-started-requires-send-F
spawn_scoped_with-started-requires-send-F g c κs within =
    let runtime = c.type_bounds.sync-R in
    let clock = c.type_bounds.sync-C in
    let source = c.type_bounds.send-S in
    let sink = c.type_bounds.send-K in
    search (sendable, crosses, shared_send, seats.the_field_send, locks.the_sync, sites.the_sync, bells.the_sync) depth 40

pub spawn_scoped_with-started-requires-send-T : goal.spawn_scoped_with-started-requires-send-T
spawn_scoped_with-started-requires-send-T g c κs within =
    let source = c.type_bounds.send-S in
    let sink = c.type_bounds.send-K in
    search (sendable, crosses, shared_send, seats.the_field_send, ends.the_field_send) depth 40
