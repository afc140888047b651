use Rattle.ps_rows.specs.declared.shown.Shown.{Shown}
use Rattle.ps_client.proofs.ShownRows.{shown_deleted, shown_put, others_distinct, changed_distinct}
use Rattle.ps_client.proofs.showing.rows_with.Goals as goal

pub returns-in-None-clause-shown : goal.returns-in-None-clause-shown
returns-in-None-clause-shown c = shown_deleted c.args.change.now c.args.rows.now c.in_ok-changed.changed c.in_ok-changed.ensures c.in-None.is

pub returns-in-None-clause-distinct : goal.returns-in-None-clause-distinct
returns-in-None-clause-distinct c = others_distinct c.args.change.now c.args.rows.now c.in_ok-changed.changed c.in_ok-changed.ensures c.requires

pub returns-in_ok-push-in-Some-clause-shown : goal.returns-in_ok-push-in-Some-clause-shown
returns-in_ok-push-in-Some-clause-shown c =
    let row : Shown = record { kind = c.in_ok-kind-in-Some.kind; id = c.in_ok-id-in-Some.id; content = c.in_ok-content-in-Some.content } in
    shown_put c.args.change.now c.columns.result.now c.args.rows.now c.in_ok-changed.changed c.push.new.self row c.in_ok-changed.ensures (rw c.columns.ensures.value c.in-Some.is)
    c.in_ok-kind-in-Some.ensures c.in_ok-id-in-Some.ensures c.in_ok-content-in-Some.ensures c.in_ok-push-in-Some.ensures.ok

pub returns-in_ok-push-in-Some-clause-distinct : goal.returns-in_ok-push-in-Some-clause-distinct
returns-in_ok-push-in-Some-clause-distinct c =
    let row : Shown = record { kind = c.in_ok-kind-in-Some.kind; id = c.in_ok-id-in-Some.id; content = c.in_ok-content-in-Some.content } in
    changed_distinct c.args.change.now c.args.rows.now c.in_ok-changed.changed c.push.new.self row c.in_ok-changed.ensures c.requires
    c.in_ok-kind-in-Some.ensures c.in_ok-id-in-Some.ensures c.in_ok-push-in-Some.ensures.ok
