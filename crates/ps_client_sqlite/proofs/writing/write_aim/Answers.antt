use Rattle.std.proofs.lemmas.Result.{IfOk-weaker}
use Rattle.sqlite.specs.Held.{state}
use Rattle.ps_client_sqlite.proofs.Written.{puts_aim}
use Rattle.ps_client_sqlite.proofs.writing.write_aim.Goals as goal

pub returns-clause-written : goal.returns-clause-written
returns-clause-written g c clean inside =
    IfOk-weaker c.put_aim.result _ _ (λ _ turns. puts_aim (state g.S.Store c.args.tx.now.conn.now) (state g.S.Store c.put_aim.new.tx.conn.now) inside c.args.target c.aim_of-kind.result.0 c.aim_of-kind.result.1
    c.aim_of-kind.ensures.kind c.aim_of-kind.ensures.number turns) (c.put_aim.ensures.put clean inside)
