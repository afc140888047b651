use Rattle.std.proofs.Common.{[], sym, ◌∙◌, subst}
use Rattle.std.proofs.lemmas.Result.{err_from_is_err_and}
use Rattle.ps_store.specs.Stores.{StoreStandsFor}
use Rattle.ps_files.proofs.Reaching.{started, line_more, refuses, all_written}
use Rattle.ps_files.proofs.change_files.write_changes.Goals as goal

pub lines-init : goal.lines-init
lines-init c =
    started c.args.rules c.args.changes c.in_ok-store.store
    (subst (λ limits. StoreStandsFor (record { rules = c.args.rules; limits = limits }) c.in_ok-store.store []) c.usual.ensures.value c.in_ok-store.ensures)

pub lines-preserved : goal.lines-preserved
lines-preserved c =
    let so_far = rw c.in-Some.is at c.lines.invariant in
    line_more c.args.rules c.args.changes.now c.lines.number c.in-Some.bytes c.split_line.result.0.now c.split_line.result.1 c.lines.store so_far c.split_line.ensures c.write_line.new.store
    (sym c.is_blank.ensures ∙ c.if-is_blank.false) (c.in_ok-write_line.ensures c.args.rules so_far.done so_far.committed)

pub returns-in_err-write_line : goal.returns-in_err-write_line
returns-in_err-write_line c =
    let p = err_from_is_err_and c.from_residual-in_err-write_line.result c.from_residual-in_err-write_line.ensures.1 in
    rw (p.1, p.2) (let so_far = rw c.in-Some.is at c.lines.invariant in
    refuses c.args.rules c.args.changes.now c.lines.number c.in-Some.bytes c.split_line.result.0.now c.split_line.result.1 c.lines.store so_far c.split_line.ensures c.in_err-write_line.field-0.0 c.write_line.new.store
    (sym c.is_blank.ensures ∙ c.if-is_blank.false) (c.in_err-write_line.ensures c.args.rules so_far.done so_far.committed))

pub returns : goal.returns
returns c = all_written c.args.rules c.args.changes.now c.lines.number c.lines.store (rw c.in_default.is at c.lines.invariant)
