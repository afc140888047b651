use Rattle.ps_values.proofs.Orders.{equal_where_present}
use Rattle.ps_values.proofs.laws.equal_where_both_are_present.Goals as goal

pub returns : goal.returns
returns c = equal_where_present
