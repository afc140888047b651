use Rattle.ps_sql_eval.proofs.Calls.{value_on}
use Rattle.ps_sql_eval.proofs.evaluations.eval_row.Goals as goal

pub returns : goal.returns
returns c =
    value_on c.same_for_every_asker.ensures c.same_for_every_bucket.ensures c.args.expr.now c.nobody.result c.args.id.now c.args.row.now c.eval.result c.requires.asker c.requires.bucket c.eval.ensures
