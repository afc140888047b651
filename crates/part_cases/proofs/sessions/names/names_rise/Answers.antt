use Rattle.part_cases.proofs.Orders.{rise_where}
use Rattle.part_cases.proofs.sessions.names.names_rise.Goals as goal

pub returns : goal.returns
returns c = rise_where c.rise_on.result c.args.buckets.now c.rise_on.ensures
