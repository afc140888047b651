use Rattle.std.proofs.Common.{sym, ◌∙◌, arith}
use Rattle.ps_client.proofs.ShownRows.{last_in_order, more_in_order}
use Rattle.ps_client.proofs.showing.is_in_place.Goals as goal

pub returns-then-is_last : goal.returns-then-is_last
returns-then-is_last c = λ yes sorted. last_in_order c.args.rows.now c.args.place (omega arith)

pub returns : goal.returns
returns c = λ yes sorted.
    more_in_order c.args.rows.now c.args.place c.index-rows-place.result c.index-rows-place-2.result (omega arith) c.index-rows-place.is c.index-rows-place-2.is
    (sym c.comes_before.ensures ∙ yes) sorted
