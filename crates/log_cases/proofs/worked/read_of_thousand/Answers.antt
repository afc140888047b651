use Rattle.std.proofs.Common.{length, arith}
use Rattle.std.proofs.lemmas.Result.{IfOk-weaker}
use Rattle.log_cases.proofs.Thousand.{depth_of_thousand}
use Rattle.log_cases.proofs.worked.read_of_thousand.Goals as goal

pub returns-clause-cost : goal.returns-clause-cost
returns-clause-cost g c =
    IfOk-weaker c.read.result _ _ (λ batch few short. omega (arith, few, short)) (c.read.ensures.cost 10 (depth_of_thousand (length c.args.log.now.ops) c.requires))
