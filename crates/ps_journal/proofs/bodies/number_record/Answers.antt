use Rattle.std.proofs.Common.{ap, codes}
use Rattle.serde_json.specs.View.{view, members_view}
use Rattle.serde_json.proofs.Views.{view-Object}
use Rattle.ps_journal.proofs.Written.{one_member, number_is}
use Rattle.ps_journal.proofs.bodies.number_record.Goals as goal

pub returns : goal.returns
returns c =
    let whole = one_member (codes "number") _ (view c.in_ok-number.number) _ _ (ap members_view c.new-members.ensures.empty) c.in_ok-put.ensures.ok (view-Object c.put.new.map) in
    number_is c.args.user.now c.args.client.now c.args.number c.args.head _ _ c.in_ok-number.ensures whole
