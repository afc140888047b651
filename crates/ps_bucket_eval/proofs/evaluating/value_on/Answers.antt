use Rattle.std.proofs.Common.{ap, ◌∙◌, ℕ, List}
use Rattle.ps_data.specs.declared.values.Value.TheVariants.{Null}
use Rattle.ps_queries.specs.declared.askers.Asker.{Asker}
use Rattle.ps_queries.specs.Meaning.{value_of}
use Rattle.ps_sql_eval.specs.Evaluated.{given_of}
use Rattle.ps_bucket_eval.proofs.evaluating.value_on.Goals as goal

pub returns : goal.returns
returns c =
    c.in_ok-value.ensures (λ (name : List ℕ). Null)
    ∙ ap (λ (asker : Asker). value_of (given_of asker c.args.id.now c.args.row.now (λ (name : List ℕ). Null)) c.args.expr.now) c.nobody-asker.ensures
