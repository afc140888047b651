use Rattle.std.proofs.Common.{w64, rules}
use mir.Val.{SFits}
use Rattle.std.proofs.lemmas.Int.{to_z-of_z}
use Rattle.ps_client_tables.proofs.OnTables.{puts_bucket}
use Rattle.sqlite.specs.Held.{state}
use Rattle.ps_client_tables.proofs.buckets.put_bucket.Goals as goal

pub returns-clause-put : goal.returns-clause-put
returns-clause-put g c clean inside =
    let fits : SFits w64 c.signed.result = search rules in
    puts_bucket (state g.S.Store c.args.tx.now.conn.now) (state g.S.Store c.run.new.tx.conn.now) c.args.name.now c.args.position.0 c.args.added inside c.run.result
    (rw (c.params-to_sql.ensures, c.params-to_sql-2.ensures, c.params-to_sql-3.ensures, c.as_str.ensures.value, to_z-of_z w64 c.signed.result fits, c.signed.ensures) at (c.run.ensures.runs clean inside.inside))
