use Rattle.ps_sql_eval.specs.Evaluated.{without_bucket}
use Rattle.ps_sql_eval.proofs.Calls.{call_is}
use Rattle.ps_sql_eval.proofs.evaluations.+evaluating.Goals as goal

pub eval-returns-in-Call : goal.eval-returns-in-Call
eval-returns-in-Call t c =
    call_is (without_bucket c.args.asker.now c.args.id.now c.args.row.now) c.args.expr.now c.in-Call.function c.in-Call.arguments c.as_slice.result.now c.call.result c.in-Call.is c.as_slice.ensures c.call.ensures
