use Rattle.ps_connections.specs.Workers.{HasDone, IsGiven}
use Rattle.ps_connections.proofs.Crew.{given_as}
use Rattle.ps_connections.proofs.works.Worker.finish.Goals as goal

pub returns-in-Some : goal.returns-in-Some
returns-in-Some g c = λ lock site clock before from to at.
    c.join_child.ensures lock site clock before from to
    (given_as c.args.self.child c.args.self.done c.in-Some.child (λ child. IsGiven g.S.Source g.K.Sink g.C.Clock lock site clock before from to child.promise)
    (λ done. HasDone g.S.Source g.K.Sink g.C.Clock lock site clock before from to done) c.in-Some.is at)
