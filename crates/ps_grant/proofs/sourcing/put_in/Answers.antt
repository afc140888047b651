use Rattle.ps_grant.proofs.KeptLaws.{put_held}
use Rattle.ps_grant.proofs.sourcing.put_in.Goals as goal

pub returns : goal.returns
returns c = put_held c.args.live.now.entries c.insert.new.self.entries c.args.key c.args.version c.in_ok-insert.ensures.entries
