use Rattle.ps_client.proofs.Orders.{keeps_order}
use Rattle.ps_client.proofs.laws.buckets_are_refused_by_name.Goals as goal

pub returns : goal.returns
returns c = keeps_order
