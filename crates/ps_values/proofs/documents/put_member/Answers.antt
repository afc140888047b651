use Rattle.ps_values.proofs.Objects.{put_more}
use Rattle.ps_values.proofs.documents.put_member.Goals as goal

pub returns : goal.returns
returns c = put_more c.args.object.now.entries _ c.args.name c.args.value c.in_ok-insert.ensures.entries
