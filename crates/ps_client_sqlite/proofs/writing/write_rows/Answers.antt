use Rattle.std.proofs.Common.{◌∙◌, arith}
use Rattle.sqlite.specs.Held.{state}
use Rattle.ps_client_tables.specs.Steps.{tables_of}
use Rattle.ps_client_sqlite.proofs.Turning.{kept_then, nothing_then, one_more}
use Rattle.ps_client_sqlite.proofs.writing.write_rows.Goals as goal

pub writes-preserved : goal.writes-preserved
writes-preserved g c =
    let inv = c.writes.invariant in
    let first = state g.S.Store c.args.tx.now.conn.now in
    let mid = state g.S.Store c.writes.tx.conn.now in
    let last = state g.S.Store c.write_row.new.tx.conn.now in
    let step = c.in_ok-write_row.ensures in
    record {
      same_reference = c.write_row.ensures.same_reference ∙ inv.same_reference;
      survives = nothing_then first mid last inv.survives c.write_row.ensures.survives;
      kept = λ clean. kept_then first mid last (inv.kept (omega (arith, c.write_row.ensures.survives.clean))) (c.write_row.ensures.kept clean);
      inside = λ clean inside. step.inside clean (inv.inside (omega (arith, c.write_row.ensures.survives.clean)) inside);
      written = λ clean inside.
          one_more c.args.writes.now c.writes.write-index c.write-item.result (tables_of first) (tables_of mid) (tables_of last) (omega arith) c.write-item.is
          (inv.written (omega (arith, c.write_row.ensures.survives.clean)) inside) (step.written clean (inv.inside (omega (arith, c.write_row.ensures.survives.clean)) inside));
    }
