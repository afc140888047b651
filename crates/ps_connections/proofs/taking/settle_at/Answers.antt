use Rattle.std.proofs.Common.{sym}
use Rattle.ps_connections.proofs.Crew.{set_settled}
use Rattle.ps_connections.proofs.taking.settle_at.Goals as goal

pub returns-then-place-len-clause-settled : goal.returns-then-place-len-clause-settled
returns-then-place-len-clause-settled g c = λ lock site clock before closed number are.
    set_settled g.S.Source g.K.Sink g.C.Clock lock site clock before closed number c.args.workers.now.items c.args.place c.index_mut.result.now c.settle.new.self
    (sym c.index_mut.ensures.value) (λ from to at. c.settle.ensures lock site clock before from to at) are
