use Rattle.std.proofs.Common.{w64}
use Rattle.std.proofs.lemmas.Int.{to_z-of_z}
use Rattle.ps_client_tables.proofs.OnTables.{puts_queued}
use Rattle.sqlite.specs.Held.{state}
use Rattle.ps_client_tables.proofs.queue.put_queued.Goals as goal

pub returns-clause-put : goal.returns-clause-put
returns-clause-put g c clean inside =
    puts_queued (state g.S.Store c.args.tx.now.conn.now) (state g.S.Store c.run.new.tx.conn.now) c.args.seq c.args.change.now inside c.run.result
    (rw (c.params-to_sql.ensures, c.params-to_sql-2.ensures, c.as_str.ensures.value, to_z-of_z w64 c.args.seq c.ranges.seq) at (c.run.ensures.runs clean inside.inside))
