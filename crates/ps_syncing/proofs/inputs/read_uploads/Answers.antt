use Rattle.std.proofs.Common.{Ok, ap, sym, ◌∙◌}
use Rattle.ps_syncing.proofs.ReadingLines.{begun, read_more, refuses_all}
use Rattle.ps_syncing.proofs.inputs.read_uploads.Goals as goal

pub lines-init : goal.lines-init
lines-init c = rw c.new-changes.ensures.items (begun c.args.bytes)

pub lines-preserved : goal.lines-preserved
lines-preserved c =
    let so_far = rw c.in-Some.is at c.lines.invariant in
    let added = c.in-Ok.ensures in
    rw added.3
    (read_more c.args.bytes.now c.lines.number c.in-Some.left c.split_line.result.0.now c.split_line.result.1 c.lines.changes.items so_far c.split_line.ensures added.0
    (sym c.is_blank.ensures ∙ c.if-is_blank.false) added.1 added.2)

pub returns-in-Err-clause-read : goal.returns-in-Err-clause-read
returns-in-Err-clause-read c =
    let so_far = rw c.in-Some.is at c.lines.invariant in
    refuses_all c.args.bytes.now c.lines.number c.in-Some.left c.split_line.result.0.now c.split_line.result.1 c.lines.changes.items so_far c.split_line.ensures c.in-Err.refused
    (sym c.is_blank.ensures ∙ c.if-is_blank.false) c.in-Err.ensures

pub returns-clause-read : goal.returns-clause-read
returns-clause-read c =
    let so_far = rw c.in_default.is at c.lines.invariant in
    so_far.meaning ∙ ap Ok (sym c.from_vec.ensures)
