use Rattle.std.proofs.Common.{w64}
use Rattle.std.proofs.lemmas.Int.{to_z-of_z}
use Rattle.ps_client_tables.proofs.OnTables.{drops_queued}
use Rattle.sqlite.specs.Held.{state}
use Rattle.ps_client_tables.proofs.queue.drop_queued.Goals as goal

pub returns-clause-dropped : goal.returns-clause-dropped
returns-clause-dropped g c clean inside =
    drops_queued (state g.S.Store c.args.tx.now.conn.now) (state g.S.Store c.run.new.tx.conn.now) c.args.seq inside c.run.result
    (rw (c.params-to_sql.ensures, to_z-of_z w64 c.args.seq c.ranges.seq) at (c.run.ensures.runs clean inside.inside))
