use Rattle.ps_lines.proofs.Insertions.{put_more}
use Rattle.ps_lines.proofs.objects.insert.Goals as goal

pub returns : goal.returns
returns c = put_more c.args.members.now.entries _ c.args.name c.args.value c.in_ok-insert.ensures.entries
