use Rattle.ps_commands.proofs.Verdicts.{split_more}
use Rattle.ps_commands.proofs.ScriptLines.{fewer}
use Rattle.ps_commands.proofs.auditing.split_all.Goals as goal

pub lines-preserved : goal.lines-preserved
lines-preserved c =
    let so_far = rw c.in-Some.is at c.lines.invariant in
    rw c.in_ok-push.ensures.items
    (split_more c.args.stream.now c.in-Some.bytes.now c.split_line.result.0.now c.split_line.result.1 c.lines.lines.items c.in_ok-piece.piece so_far c.split_line.ensures c.in_ok-piece.ensures.items)

pub lines-smaller : goal.lines-smaller
lines-smaller c = rw c.in-Some.is (fewer c.in-Some.bytes.now c.split_line.result.0.now c.split_line.result.1 c.split_line.ensures)
