use Rattle.ps_client.specs.Clients.{line_taken}
use Rattle.ps_client.specs.States.{state}
use Rattle.ps_client.proofs.Committing.{says}
use Rattle.ps_client.proofs.clients.Client.take_line.Goals as goal

pub returns-clause-says : goal.returns-clause-says
returns-clause-says g c =
    says (line_taken (state c.args.self.now) c.args.line.now) (state c.args.self.now) (state c.take.new.self) c.take.result _ _ c.take.ensures.taken c.take.ensures.failed
