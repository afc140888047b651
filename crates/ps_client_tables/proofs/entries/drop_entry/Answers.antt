use Rattle.ps_client_tables.proofs.OnTables.{drops_entry}
use Rattle.sqlite.specs.Held.{state}
use Rattle.ps_client_tables.proofs.entries.drop_entry.Goals as goal

pub returns-clause-dropped : goal.returns-clause-dropped
returns-clause-dropped g c clean inside =
    drops_entry (state g.S.Store c.args.tx.now.conn.now) (state g.S.Store c.run.new.tx.conn.now) c.args.bucket.now c.args.key.now inside c.run.result
    (rw (c.params-to_sql.ensures, c.params-to_sql-2.ensures, c.params-to_sql-3.ensures, c.params-to_sql-4.ensures, c.as_str.ensures.value, c.as_str-2.ensures.value, c.as_str-3.ensures.value, c.as_str-4.ensures.value) at (c.run.ensures.runs clean inside.inside))
