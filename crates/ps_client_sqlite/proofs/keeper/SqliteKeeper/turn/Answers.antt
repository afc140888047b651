use Rattle.std.proofs.Common.{◌≡◌}
use Rattle.sqlite.specs.Held.{state}
use Rattle.ps_client_sqlite.specs.Stating.{stored_of}
use Rattle.ps_client_sqlite.proofs.Standing.{crash_then}
use Rattle.ps_client_sqlite.proofs.keeper.SqliteKeeper.turn.Goals as goal

pub invariant_of-self-in-Err-1 : goal.invariant_of-self-in-Err-1
invariant_of-self-in-Err-1 g c =
    let was = c.self.invariant in
    record { outside = c.write_all.ensures.outside; sound = was.sound; queued = was.queued; rising = was.rising; keeps = c.in-Err.ensures.err (stored_of c.self.inside.kept c.self.inside.writes) was.keeps }

pub returns-in-Err-clause-stands : goal.returns-in-Err-clause-stands
returns-in-Err-clause-stands g c =
    let was = c.self.invariant in
    record { outside = c.write_all.ensures.outside; sound = was.sound; queued = was.queued; rising = was.rising; keeps = c.in-Err.ensures.err (stored_of c.self.inside.kept c.self.inside.writes) was.keeps }

pub returns-in-Ok-clause-crash : goal.returns-in-Ok-clause-crash
returns-in-Ok-clause-crash g c =
    let inside = c.self.inside in
    let is : c.args.self.now ≡ (inside.connection, (inside.kept, (inside.writes, inside.faults))) = cc in
    crash_then (state g.S.Store) c.args.self.now inside.connection inside.kept inside.writes inside.faults (state g.S.Store c.write_all.new.conn) c.args.writes.now c.args.next c.args.queue is c.requires.reached
    (c.write_all.ensures.crash (stored_of inside.kept inside.writes) c.self.invariant.keeps)

pub returns-in-Err-clause-crash : goal.returns-in-Err-clause-crash
returns-in-Err-clause-crash g c =
    let inside = c.self.inside in
    let is : c.args.self.now ≡ (inside.connection, (inside.kept, (inside.writes, inside.faults))) = cc in
    crash_then (state g.S.Store) c.args.self.now inside.connection inside.kept inside.writes inside.faults (state g.S.Store c.write_all.new.conn) c.args.writes.now c.args.next c.args.queue is c.requires.reached
    (c.write_all.ensures.crash (stored_of inside.kept inside.writes) c.self.invariant.keeps)
