use Rattle.std.proofs.Common.{◌∙◌}
use Rattle.ps_lock.specs.Words.{seen_by, own_entries_of}
use Rattle.ps_workers.specs.Sharing.{fixed_of}
use Rattle.ps_connections.proofs.Answering.{has_answered}
use Rattle.ps_connections.proofs.works.work.Goals as goal

pub returns-clause-answered : goal.returns-clause-answered
returns-clause-answered g c =
    let it = c.answer_connection-seat in
    let answer = it.ensures in
    let from = c.end.ensures in
    let to = c.end-2.ensures in
    has_answered g.S.Source g.K.Sink (fixed_of c.args.service.now.lock.now) c.args.service.now.site.now (g.C.Clock.may_give c.args.service.now.clock.now)
    (seen_by c.args.seat) (seen_by it.result.0) (own_entries_of c.args.seat) (own_entries_of it.result.0) c.args.from c.args.to it.new.from it.new.to c.end.new.self c.end-2.new.self
    it.result.1 c.answers_stay.ensures answer.saw answer.answers (from.number ∙ answer.source) (to.number ∙ answer.sink) from.input from.faults to.taken to.faults
