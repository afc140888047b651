use Rattle.std.proofs.Common.{ap, ◌∙◌, codes}
use Rattle.serde_json.specs.Data.{string, put}
use Rattle.serde_json.specs.View.{members_view}
use Rattle.serde_json.proofs.Views.{view-Object}
use Rattle.ps_journal.proofs.Written.{number_made}
use Rattle.ps_journal.proofs.bodies.number_object.Goals as goal

pub returns : goal.returns
returns c =
    let none = ap members_view c.new-members.ensures.empty in
    let first = c.in_ok-put_text.ensures ∙ ap (put (codes "client") (string c.as_str.result.now)) none in
    let last = c.in_ok-put_text-2.ensures in
    number_made c.args.user.now c.args.client.now c.args.number c.args.head.0 _ _ _ _ _ (rw c.as_str.ensures.value at first) c.in_ok-put_decimal.ensures c.in_ok-put_decimal-2.ensures
    (rw c.as_str-2.ensures.value at last) (view-Object c.put_text-2.new.members)
