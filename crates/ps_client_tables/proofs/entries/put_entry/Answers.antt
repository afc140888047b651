use Rattle.std.proofs.Common.{w64, rules}
use mir.Val.{SFits}
use Rattle.std.proofs.lemmas.Int.{to_z-of_z}
use Rattle.ps_client_tables.proofs.OnTables.{puts_entry}
use Rattle.sqlite.specs.Held.{state}
use Rattle.ps_client_tables.proofs.entries.put_entry.Goals as goal

pub returns-clause-put : goal.returns-clause-put
returns-clause-put g c clean inside =
    let fits : SFits w64 c.signed.result = search rules in
    puts_entry (state g.S.Store c.args.tx.now.conn.now) (state g.S.Store c.run.new.tx.conn.now) c.args.bucket.now c.args.key.now c.args.op.0 c.args.content.now c.args.sum inside c.run.result
    (rw (c.params-to_sql.ensures, c.params-to_sql-2.ensures, c.params-to_sql-3.ensures, c.params-to_sql-4.ensures, c.params-to_sql-5.ensures, c.params-to_sql-6.ensures, c.params-to_sql-7.ensures, c.as_str.ensures.value, c.as_str-2.ensures.value, c.as_str-3.ensures.value, c.as_str-4.ensures.value, c.as_str-5.ensures.value, to_z-of_z w64 c.signed.result fits, c.signed.ensures) at (c.run.ensures.runs clean inside.inside))
