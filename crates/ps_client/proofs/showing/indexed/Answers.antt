use Rattle.std.proofs.Common.{arith, refl}
use Rattle.ps_client.proofs.ShownRows.{indexed_more}
use Rattle.ps_client.proofs.showing.indexed.Goals as goal

pub rows-preserved : goal.rows-preserved
rows-preserved c = λ object.
    indexed_more c.args.rows.now c.rows.row-index c.row-item.result _ c.rows.index c.insert.new.self object (omega arith) c.row-item.is
    c.in_ok-insert.ensures.updates.0 refl (c.rows.invariant object)
