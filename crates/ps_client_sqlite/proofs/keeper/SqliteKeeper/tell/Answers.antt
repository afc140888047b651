use Rattle.sqlite.specs.Held.{state}
use Rattle.ps_client_sqlite.proofs.Standing.{stands_again}
use Rattle.ps_client_sqlite.proofs.keeper.SqliteKeeper.tell.Goals as goal

pub invariant_of-self : goal.invariant_of-self
invariant_of-self g c =
    stands_again c.self.inside.kept c.self.inside.writes (state g.S.Store c.self.inside.connection) (state g.S.Store c.read_again.new.conn) c.self.invariant c.read_again.ensures.mode c.read_again.ensures.kept

pub returns-in_err-state_copy-in-Ok-clause-stands : goal.returns-in_err-state_copy-in-Ok-clause-stands
returns-in_err-state_copy-in-Ok-clause-stands g c =
    stands_again c.self.inside.kept c.self.inside.writes (state g.S.Store c.self.inside.connection) (state g.S.Store c.read_again.new.conn) c.self.invariant c.read_again.ensures.mode c.read_again.ensures.kept

pub invariant_of-self-in-Ok : goal.invariant_of-self-in-Ok
invariant_of-self-in-Ok g c =
    stands_again c.self.inside.kept c.self.inside.writes (state g.S.Store c.self.inside.connection) (state g.S.Store c.read_again.new.conn) c.self.invariant c.read_again.ensures.mode c.read_again.ensures.kept

pub invariant_of-self-in-Err : goal.invariant_of-self-in-Err
invariant_of-self-in-Err g c =
    stands_again c.self.inside.kept c.self.inside.writes (state g.S.Store c.self.inside.connection) (state g.S.Store c.read_again.new.conn) c.self.invariant c.read_again.ensures.mode c.read_again.ensures.kept

pub returns-in_ok-state_copy-in-Ok-clause-stands : goal.returns-in_ok-state_copy-in-Ok-clause-stands
returns-in_ok-state_copy-in-Ok-clause-stands g c =
    stands_again c.self.inside.kept c.self.inside.writes (state g.S.Store c.self.inside.connection) (state g.S.Store c.read_again.new.conn) c.self.invariant c.read_again.ensures.mode c.read_again.ensures.kept

pub returns-in-Err-clause-stands : goal.returns-in-Err-clause-stands
returns-in-Err-clause-stands g c =
    stands_again c.self.inside.kept c.self.inside.writes (state g.S.Store c.self.inside.connection) (state g.S.Store c.read_again.new.conn) c.self.invariant c.read_again.ensures.mode c.read_again.ensures.kept
