use Rattle.ps_core.proofs.Answered.{rows_so}
use Rattle.ps_core.proofs.taking.rows.Goals as goal

pub returns : goal.returns
returns c = λ fixed play name store it.
    rows_so fixed play name store c.args.reader.now c.in_ok-rows.rows it (record { in_order = c.in_ok-rows.ensures.in_order; each = c.in_ok-rows.ensures.shown })
