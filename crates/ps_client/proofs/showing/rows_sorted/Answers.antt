use Rattle.std.proofs.Common.{◌∙◌}
use Rattle.std.proofs.lemmas.Result.{IfOk-weaker}
use Rattle.ps_client.proofs.ShownRows.{listed_in_order, listed_same}
use Rattle.ps_client.proofs.showing.rows_sorted.Goals as goal

pub returns-clause-in_order : goal.returns-clause-in_order
returns-clause-in_order c =
    IfOk-weaker c.listed.result _ _ (λ rows is. listed_in_order rows c.in_ok-index.index.entries is c.listed.ensures.ordered) c.listed.ensures.rows

pub returns-clause-same : goal.returns-clause-same
returns-clause-same c =
    IfOk-weaker c.listed.result _ _ (λ rows is object. listed_same rows c.in_ok-index.index object is ∙ c.in_ok-index.ensures object) c.listed.ensures.rows
