use Rattle.std.proofs.Common.{ap, codes}
use Rattle.serde_json.specs.View.{view, members_view}
use Rattle.serde_json.proofs.Views.{view-Object}
use Rattle.ps_journal.proofs.Written.{one_member, upload_is, upload_again, upload_plain, upload_shallow}
use Rattle.ps_journal.proofs.bodies.upload_json.Goals as goal

pub returns-clause-value : goal.returns-clause-value
returns-clause-value c =
    let whole = one_member (codes "upload") _ (view c.in_ok-upload.upload) _ _ (ap members_view c.new-members.ensures.empty) c.in_ok-put.ensures.ok (view-Object c.put.new.map) in
    upload_is c.args.position c.args.changes.now _ _ c.in_ok-upload.ensures.value whole

pub returns-clause-read_again : goal.returns-clause-read_again
returns-clause-read_again c =
    let whole = one_member (codes "upload") _ (view c.in_ok-upload.upload) _ _ (ap members_view c.new-members.ensures.empty) c.in_ok-put.ensures.ok (view-Object c.put.new.map) in
    upload_again c.args.position c.args.changes.now _ _ c.in_ok-upload.ensures.read_again whole

pub returns-clause-plain : goal.returns-clause-plain
returns-clause-plain c =
    let whole = one_member (codes "upload") _ (view c.in_ok-upload.upload) _ _ (ap members_view c.new-members.ensures.empty) c.in_ok-put.ensures.ok (view-Object c.put.new.map) in
    upload_plain _ _ c.in_ok-upload.ensures.plain whole

pub returns-clause-shallow : goal.returns-clause-shallow
returns-clause-shallow c =
    let whole = one_member (codes "upload") _ (view c.in_ok-upload.upload) _ _ (ap members_view c.new-members.ensures.empty) c.in_ok-put.ensures.ok (view-Object c.put.new.map) in
    upload_shallow _ _ c.in_ok-upload.ensures.shallow whole
