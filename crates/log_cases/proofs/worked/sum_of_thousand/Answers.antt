use Rattle.std.proofs.Common.{length, arith}
use Rattle.log_cases.proofs.Thousand.{depth_of_thousand}
use Rattle.log_cases.proofs.worked.sum_of_thousand.Goals as goal

pub returns-clause-cost : goal.returns-clause-cost
returns-clause-cost g c = omega (arith, c.sum_upto.ensures.cost 10 (depth_of_thousand (length c.args.log.now.ops) c.requires))
