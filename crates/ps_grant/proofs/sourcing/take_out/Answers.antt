use Rattle.ps_grant.proofs.KeptLaws.{taken_out}
use Rattle.ps_grant.proofs.sourcing.take_out.Goals as goal

pub returns : goal.returns
returns c = taken_out c.args.live.now.entries c.remove-was.new.self.entries c.args.key.now c.len-ordered.ensures.ordered c.remove-was.ensures.entries
