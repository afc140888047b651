use Rattle.std.proofs.Common.{[], unwrap_or}
use Rattle.ps_audit.proofs.Entering.{read_put}
use Rattle.ps_audit.proofs.standing.Standing.set.Goals as goal

pub returns : goal.returns
returns c = λ other. read_put (λ o. unwrap_or o []) c.args.self.now.entries c.insert.new.self c.args.key c.args.entries c.in_ok-insert.ensures.updates.0 other
