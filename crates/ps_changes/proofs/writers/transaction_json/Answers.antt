use Rattle.std.proofs.Common.{ap, ◌∙◌, codes}
use Rattle.serde_json.specs.Data.{put}
use Rattle.serde_json.specs.View.{view, members_view}
use Rattle.serde_json.proofs.Views.{view-Object}
use Rattle.ps_changes.proofs.Written.{transaction_made, transaction_spelled}
use Rattle.ps_changes.proofs.writers.transaction_json.Goals as goal

pub returns-clause-value : goal.returns-clause-value
returns-clause-value c =
    let none = ap members_view c.new-members.ensures.empty in
    let first = c.in_ok-put.ensures.ok ∙ ap (put (codes "changes") (view c.in_ok-changes.changes)) none in
    transaction_made (record { position = c.args.position; changes = c.args.changes.now }) _ _ _ _ _ c.as_slice.ensures c.in_ok-changes.ensures.value first c.in_ok-put_decimal.ensures (view-Object c.put_decimal.new.members)

pub returns-clause-spelled : goal.returns-clause-spelled
returns-clause-spelled c = transaction_spelled (record { position = c.args.position; changes = c.args.changes.now }) c.as_slice.result.now c.requires c.as_slice.ensures c.in_ok-changes.ensures.spelled
