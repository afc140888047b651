use Rattle.sqlite.specs.Held.{state}
use Rattle.ps_client_tables.specs.Steps.{tables_of}
use Rattle.ps_client_sqlite.proofs.Stated.{stated}
use Rattle.ps_client_sqlite.proofs.Blamed.{unnamed_fault, unnamed_open, named_open, rows_fault}
use Rattle.ps_client_sqlite.proofs.reading.read_state.Goals as goal

pub returns-in-Ok-state_in-clause-read : goal.returns-in-Ok-state_in-clause-read
returns-in-Ok-state_in-clause-read g c clean client =
    let told = c.in-Ok-state_in.told in
    stated (tables_of (state g.S.Store c.args.conn.now)) c.in-Ok.rows told.0 told.1 (c.in-Ok.ensures.read clean client) c.in-Ok-state_in.ensures.rows c.in-Ok-state_in.ensures.sound c.in-Ok-state_in.ensures.rising

pub returns-in-Ok-state_in-clause-queued : goal.returns-in-Ok-state_in-clause-queued
returns-in-Ok-state_in-clause-queued g c = c.in-Ok-state_in.ensures.rows.changes

pub returns-in-Err-clause-blames : goal.returns-in-Err-clause-blames
returns-in-Err-clause-blames g c clean client = unnamed_fault (tables_of (state g.S.Store c.args.conn.now)) c.in-Err.fault c.in-Err.ensures.unnamed

pub returns-in-Err-clause-named : goal.returns-in-Err-clause-named
returns-in-Err-clause-named g c clean = unnamed_open (state g.S.Store c.args.conn.now) c.in-Err.fault c.in-Err.ensures.unnamed

pub returns-clause-blames : goal.returns-clause-blames
returns-clause-blames g c clean client =
    rows_fault (tables_of (state g.S.Store c.args.conn.now)) c.in-Ok.rows c.in-Err-state_in.fault c.of_rows.result c.of_rows.ensures (c.in-Ok.ensures.read clean client) c.in-Err-state_in.ensures.blames

pub returns-clause-named : goal.returns-clause-named
returns-clause-named g c clean = named_open (state g.S.Store c.args.conn.now) c.of_rows.result (c.in-Ok.ensures.opened clean)
