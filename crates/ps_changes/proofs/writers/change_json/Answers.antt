use Rattle.std.proofs.Common.{ap, ◌∙◌, codes}
use Rattle.serde_json.specs.Data.{string, put}
use Rattle.serde_json.specs.View.{members_view}
use Rattle.serde_json.proofs.Views.{view-Object}
use Rattle.ps_changes.proofs.Written.{change_made, change_spelled}
use Rattle.ps_changes.proofs.writers.change_json.Goals as goal

pub returns-clause-value : goal.returns-clause-value
returns-clause-value c =
    let none = ap members_view c.new-members.ensures.empty in
    let first = c.in_ok-put_text.ensures ∙ ap (put (codes "id") (string c.as_str.result.now)) none in
    change_made c.args.change.now _ _ _ _ _ _ c.as_str.ensures.value first c.in_ok-put_row.ensures.value c.as_str-2.ensures.value c.in_ok-put_text-2.ensures (view-Object c.put_text-2.new.members)

pub returns-clause-spelled : goal.returns-clause-spelled
returns-clause-spelled c = change_spelled c.args.change.now c.requires c.in_ok-put_row.ensures.spelled
