use Rattle.std.proofs.Common.{sym, ◌∙◌}
use Rattle.std.proofs.lemmas.Result.{err_from_is_err_and}
use Rattle.ps_files.proofs.RisingLines.{begun, risen_more, refuses_rising, all_risen}
use Rattle.ps_files.proofs.reading_rising.read_all_rising.Goals as goal

pub lines-init : goal.lines-init
lines-init c = rw c.new-transactions.ensures.items (begun c.args.changes)

pub lines-preserved : goal.lines-preserved
lines-preserved c =
    let so_far = rw c.in-Some.is at c.lines.invariant in
    rw c.in_ok-push.ensures.items
    (risen_more c.args.changes.now c.lines.number c.in-Some.bytes c.split_line.result.0.now c.split_line.result.1 c.lines.last c.lines.transactions.items so_far c.split_line.ensures c.in_ok-transaction.transaction
    (sym c.is_blank.ensures ∙ c.if-is_blank.false) c.in_ok-transaction.ensures.read)

pub returns-in_err-transaction : goal.returns-in_err-transaction
returns-in_err-transaction c =
    let p = err_from_is_err_and c.from_residual.result c.from_residual.ensures.1 in
    rw (p.1, p.2) (let so_far = rw c.in-Some.is at c.lines.invariant in
    refuses_rising c.args.changes.now c.lines.number c.in-Some.bytes c.split_line.result.0.now c.split_line.result.1 c.lines.last c.lines.transactions.items so_far c.split_line.ensures c.in_err-transaction.field-0.0
    (sym c.is_blank.ensures ∙ c.if-is_blank.false) c.in_err-transaction.ensures.read)

pub returns : goal.returns
returns c = all_risen c.args.changes.now c.lines.number c.lines.last c.lines.transactions (rw c.in_default.is at c.lines.invariant)
