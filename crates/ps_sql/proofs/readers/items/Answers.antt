use Rattle.std.proofs.Common.{rules, ◌-◌, Err, ap, sym, ◌∙◌, arith}
use Rattle.ps_sql.proofs.QueryLaws.{items_none, items_fail, items_last, items_on, fails_as}
use Rattle.ps_sql.proofs.readers.items.Goals as goal

pub returns-in_err-listed : goal.returns-in_err-listed
returns-in_err-listed c =
    let failed = items_fail (c.args.limit - c.items._turn) c.args.context.now c.args.limit c.items.listed c.items.cursor c.in_err-listed.field-0.0 _
    c.items.invariant (omega arith) c.in_err-listed.ensures in
    search (rules, failed)

pub returns-then-not-is_mark : goal.returns-then-not-is_mark
returns-then-not-is_mark c = c.items.invariant ∙ items_last (c.args.limit - c.items._turn) c.args.context.now c.args.limit c.items.listed c.items.cursor _ (omega arith)
    c.in_ok-listed.ensures (sym c.if-not-is_mark.ensures)

pub items-preserved : goal.items-preserved
items-preserved c = c.items.invariant ∙ items_on (c.args.limit - c.items._turn) c.args.context.now c.args.limit c.items.listed c.items.cursor _ _ _ (omega arith)
    c.in_ok-listed.ensures (sym c.if-not-is_mark.ensures) (omega arith) c.skip.ensures

pub returns : goal.returns
returns c = fails_as _ c.refusal.result (c.items.invariant ∙ items_none (c.args.limit - c.items._turn) c.args.context.now c.args.limit c.items.listed c.items.cursor (omega arith)
    ∙ ap (λ fault. Err fault) (sym c.refusal.ensures))
