use Rattle.speed_cases.proofs.Newest.{one_more}
use Rattle.speed_cases.proofs.lines.puts.Goals as goal

pub ops-preserved : goal.ops-preserved
ops-preserved c = one_more c.ops.ops.items _ _ c.ops.before c.ops.invariant.0 c.ops.invariant.1 c.in_ok-put.ensures c.in_ok-push.ensures.items
