use Rattle.sqlite.specs.Held.{state}
use Rattle.ps_client_sqlite.proofs.Standing.{read_stands}
use Rattle.ps_client_sqlite.proofs.Blamed.{read_fault}
use Rattle.ps_client_sqlite.proofs.keeper.read.Goals as goal

pub invariant_of-result : goal.invariant_of-result
invariant_of-result g c =
    read_stands (state g.S.Store c.args.connection) (state g.S.Store c.read_state.new.conn) c.in-Ok.told.0 c.in-Ok.told.1 c.requires.settled (c.in-Ok.ensures.mode c.requires.outside)
    c.in-Ok.ensures.sound c.in-Ok.ensures.queued c.in-Ok.ensures.rising c.in-Ok.ensures.clean c.in-Ok.ensures.opened c.in-Ok.ensures.same c.in-Ok.ensures.read

pub returns-in-Ok-clause-stands : goal.returns-in-Ok-clause-stands
returns-in-Ok-clause-stands g c =
    read_stands (state g.S.Store c.args.connection) (state g.S.Store c.read_state.new.conn) c.in-Ok.told.0 c.in-Ok.told.1 c.requires.settled (c.in-Ok.ensures.mode c.requires.outside)
    c.in-Ok.ensures.sound c.in-Ok.ensures.queued c.in-Ok.ensures.rising c.in-Ok.ensures.clean c.in-Ok.ensures.opened c.in-Ok.ensures.same c.in-Ok.ensures.read

pub returns-in-Err-clause-blames : goal.returns-in-Err-clause-blames
returns-in-Err-clause-blames g c =
    read_fault (state g.S.Store) (state g.S.Store c.args.connection) c.read_state.new.conn c.in-Err.fault c.in-Err.ensures.clean c.in-Err.ensures.named c.in-Err.ensures.blames
