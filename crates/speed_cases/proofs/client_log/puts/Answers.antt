use Rattle.speed_cases.proofs.Rising.{one_more}
use Rattle.speed_cases.proofs.client_log.puts.Goals as goal

pub ops-preserved : goal.ops-preserved
ops-preserved c =
    one_more c.rising_ids_rise_on.ensures c.args.after c.ops.before c.ops.ops.items _ _ c.ops.invariant.0 c.ops.invariant.1 c.in_ok-put.ensures c.in_ok-push.ensures.items
