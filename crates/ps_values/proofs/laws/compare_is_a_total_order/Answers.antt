use Rattle.ps_values.proofs.Orders.{antisymmetric, transitive, total, ties_the_same}
use Rattle.ps_values.proofs.laws.compare_is_a_total_order.Goals as goal

pub returns-clause-antisymmetric : goal.returns-clause-antisymmetric
returns-clause-antisymmetric c = antisymmetric

pub returns-clause-transitive : goal.returns-clause-transitive
returns-clause-transitive c = transitive

pub returns-clause-total : goal.returns-clause-total
returns-clause-total c = total

pub returns-clause-ties : goal.returns-clause-ties
returns-clause-ties c = ties_the_same
