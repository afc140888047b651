use Rattle.ps_client_tables.proofs.OnTables.{drops_bucket}
use Rattle.sqlite.specs.Held.{state}
use Rattle.ps_client_tables.proofs.buckets.drop_bucket.Goals as goal

pub returns-clause-dropped : goal.returns-clause-dropped
returns-clause-dropped g c clean inside =
    drops_bucket (state g.S.Store c.args.tx.now.conn.now) (state g.S.Store c.run.new.tx.conn.now) c.args.name.now inside c.run.result
    (rw (c.params-to_sql.ensures, c.as_str.ensures.value) at (c.run.ensures.runs clean inside.inside))
