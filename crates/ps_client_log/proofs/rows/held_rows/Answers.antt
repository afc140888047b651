use Rattle.std.proofs.lemmas.Result.{IfOk-weaker}
use Rattle.ps_client_log.proofs.Copies.{rows_in_order, rows_distinct, rows_latest, rows_all}
use Rattle.ps_client_log.proofs.rows.held_rows.Goals as goal

pub returns-clause-in_order : goal.returns-clause-in_order
returns-clause-in_order c =
    IfOk-weaker c.rows_of.result _ _ (λ rows listed. rows_in_order c.in_ok-latest.latest.entries rows.items listed c.rows_of.ensures.ordered) c.rows_of.ensures.rows

pub returns-clause-latest : goal.returns-clause-latest
returns-clause-latest c =
    IfOk-weaker c.rows_of.result _ _
    (λ rows listed. rows_latest c.args.holdings.now c.in_ok-latest.ensures.names c.in_ok-latest.ensures.once c.in_ok-latest.latest c.in_ok-latest.ensures.rows rows.items listed)
    c.rows_of.ensures.rows

pub returns-clause-all : goal.returns-clause-all
returns-clause-all c =
    IfOk-weaker c.rows_of.result _ _
    (λ rows listed. rows_all c.args.holdings.now c.in_ok-latest.ensures.names c.in_ok-latest.ensures.once c.in_ok-latest.latest c.in_ok-latest.ensures.rows rows.items listed)
    c.rows_of.ensures.rows

pub returns-clause-distinct : goal.returns-clause-distinct
returns-clause-distinct c =
    IfOk-weaker c.rows_of.result _ _
    (λ rows listed. rows_distinct rows.items (rows_in_order c.in_ok-latest.latest.entries rows.items listed c.rows_of.ensures.ordered)) c.rows_of.ensures.rows
