use Rattle.std.proofs.Common.{refl, sym, subst}
use Rattle.ps_serve.specs.declared.asked.Asked.{Asked}
use Rattle.ps_serve.specs.Alone.{Does}
use Rattle.ps_serve.proofs.alone.answer.Goals as goal

pub returns-in-Stream-clause-does : goal.returns-in-Stream-clause-does
returns-in-Stream-clause-does g c = λ fixed history serves.
    subst (λ (it : Asked). Does (g.C.Clock.may_give c.args.clock.now) fixed history it c.args.store.now c.args.store.now (g.K.Sink.taken c.args.to.now) (g.K.Sink.taken c.answer_stream.new.to)
    (g.K.Sink.faults c.args.to.now) (g.K.Sink.faults c.answer_stream.new.to) c.answer_stream.result.0 c.answer_stream.result.1)
    (sym c.in-Stream.is) (refl, c.answer_stream.ensures.streams fixed history serves)
