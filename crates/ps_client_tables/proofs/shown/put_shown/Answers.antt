use Rattle.ps_client_tables.proofs.OnTables.{puts_shown}
use Rattle.sqlite.specs.Held.{state}
use Rattle.ps_client_tables.proofs.shown.put_shown.Goals as goal

pub returns-clause-put : goal.returns-clause-put
returns-clause-put g c clean inside =
    puts_shown (state g.S.Store c.args.tx.now.conn.now) (state g.S.Store c.run.new.tx.conn.now) c.args.kind.now c.args.id.now c.args.content.now inside c.run.result
    (rw (c.params-to_sql.ensures, c.params-to_sql-2.ensures, c.params-to_sql-3.ensures, c.as_str.ensures.value, c.as_str-2.ensures.value, c.as_str-3.ensures.value) at (c.run.ensures.runs clean inside.inside))
