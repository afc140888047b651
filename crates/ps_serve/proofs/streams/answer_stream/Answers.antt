use Rattle.std.proofs.Common.{subst}
use Rattle.ps_queries.specs.declared.askers.Asker.{Asker}
use Rattle.ps_serve.specs.Runs.{Streams}
use Rattle.ps_serve.proofs.streams.answer_stream.Goals as goal

pub returns-clause-streams : goal.returns-clause-streams
returns-clause-streams g c = λ fixed history serves.
    subst (λ (asker : Asker). Streams (g.C.Clock.may_give c.args.clock.now) c.args.exp fixed history asker c.args.request.positions
    (g.K.Sink.taken c.args.to.now) (g.K.Sink.taken c.stream_from.new.to) (g.K.Sink.faults c.args.to.now) (g.K.Sink.faults c.stream_from.new.to) c.stream_from.result.0 c.stream_from.result.1)
    c.begin-session.ensures.asker (c.stream_from.ensures.streams fixed history c.args.request.positions serves c.begin-session.ensures.state)
