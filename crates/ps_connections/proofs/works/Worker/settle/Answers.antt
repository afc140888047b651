use Rattle.std.proofs.Common.{sym}
use Rattle.ps_connections.specs.Workers.{HasDone, IsGiven}
use Rattle.ps_connections.proofs.Crew.{ended_as}
use Rattle.ps_connections.proofs.works.Worker.settle.Goals as goal

pub returns-in-Some : goal.returns-in-Some
returns-in-Some g c = λ lock site clock before from to at.
    let was = c.args.self.now in
    ended_as was.child c.take.new.self was.done c.in-Some.child c.join_child.result
    (λ child. IsGiven g.S.Source g.K.Sink g.C.Clock lock site clock before from to child.promise) (λ done. HasDone g.S.Source g.K.Sink g.C.Clock lock site clock before from to done)
    (sym c.in-Some.ensures.value) c.in-Some.ensures.after (c.join_child.ensures lock site clock before from to) at
