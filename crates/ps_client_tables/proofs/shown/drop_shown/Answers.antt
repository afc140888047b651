use Rattle.ps_client_tables.proofs.OnTables.{drops_shown}
use Rattle.sqlite.specs.Held.{state}
use Rattle.ps_client_tables.proofs.shown.drop_shown.Goals as goal

pub returns-clause-dropped : goal.returns-clause-dropped
returns-clause-dropped g c clean inside =
    drops_shown (state g.S.Store c.args.tx.now.conn.now) (state g.S.Store c.run.new.tx.conn.now) c.args.kind.now c.args.id.now inside c.run.result
    (rw (c.params-to_sql.ensures, c.params-to_sql-2.ensures, c.as_str.ensures.value, c.as_str-2.ensures.value) at (c.run.ensures.runs clean inside.inside))
