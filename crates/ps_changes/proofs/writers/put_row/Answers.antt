use Rattle.std.proofs.Common.{codes, sym, ap, ap₂, ◌∙◌}
use Rattle.serde_json.specs.Data.{put}
use Rattle.serde_json.specs.View.{members_view}
use Rattle.ps_changes.specs.Writing.{with_row}
use Rattle.ps_changes.proofs.writers.put_row.Goals as goal

pub returns-in_ok-put-in-Some-clause-value : goal.returns-in_ok-put-in-Some-clause-value
returns-in_ok-put-in-Some-clause-value c =
    c.in_ok-put-in-Some.ensures.ok ∙ ap₂ (put (codes "row")) c.in_ok-row_json-in-Some.ensures.value c.in_ok-put_text-in-Some.ensures
    ∙ sym (ap (λ row. with_row row (members_view c.args.members.now.entries)) c.in-Some.is)

pub returns-in_ok-put-in-Some-clause-spelled : goal.returns-in_ok-put-in-Some-clause-spelled
returns-in_ok-put-in-Some-clause-spelled c = rw c.in-Some.is c.in_ok-row_json-in-Some.ensures.spelled
