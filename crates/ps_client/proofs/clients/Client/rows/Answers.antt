use Rattle.std.proofs.Common.{ap, ◌∙◌}
use Rattle.std.proofs.lemmas.Result.{IfOk-weaker}
use Rattle.ps_client.specs.Taking.{Rows}
use Rattle.ps_client.proofs.clients.Client.rows.Goals as goal

pub returns-clause-shown : goal.returns-clause-shown
returns-clause-shown g c =
    IfOk-weaker c.rows_in_order.result _ _
    (λ rows is object. is object ∙ ap (λ (shown : Rows). shown object.0 object.1) c.shown.ensures.value) c.rows_in_order.ensures.same
