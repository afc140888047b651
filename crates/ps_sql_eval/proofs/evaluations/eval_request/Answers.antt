use Rattle.ps_sql_eval.proofs.Calls.{value_for}
use Rattle.ps_sql_eval.proofs.evaluations.eval_request.Goals as goal

pub returns : goal.returns
returns c = value_for c.same_for_every_bucket.ensures c.args.expr.now c.args.asker.now c.args.id.now c.args.row.now c.eval.result c.requires c.eval.ensures
