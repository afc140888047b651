use Rattle.std.proofs.Common.{Ok, Err, refl}
use Rattle.ps_serve.proofs.Serving.{does_serves}
use Rattle.ps_serve.proofs.alone.answer_alone.Goals as goal

pub returns-in-Ok-clause-answers : goal.returns-in-Ok-clause-answers
returns-in-Ok-clause-answers g c = λ fixed history serves. record {
  it = Ok c.in-Ok.asked;
  asks = c.in-Ok.ensures.asks;
  does = c.answer.ensures.does fixed history serves;
}

pub returns-in-Ok-clause-serves : goal.returns-in-Ok-clause-serves
returns-in-Ok-clause-serves g c = λ fixed history serves.
    does_serves fixed history c.args.store.now serves (g.C.Clock.may_give c.args.clock.now) (Ok c.in-Ok.asked) c.answer.new.store
    (g.K.Sink.taken c.args.to.now) (g.K.Sink.taken c.answer.new.to) (g.K.Sink.faults c.args.to.now) (g.K.Sink.faults c.answer.new.to) c.answer.result.0 c.answer.result.1
    (c.answer.ensures.does fixed history serves)

pub returns-in-Err-clause-answers : goal.returns-in-Err-clause-answers
returns-in-Err-clause-answers g c = λ fixed history serves. record {
  it = Err c.in-Err.refusal;
  asks = c.in-Err.ensures.asks;
  does = (refl, c.refuse.ensures.refuses);
}

pub returns-in-Err-clause-serves : goal.returns-in-Err-clause-serves
returns-in-Err-clause-serves g c = λ fixed history serves.
    does_serves fixed history c.args.store.now serves (g.C.Clock.may_give c.args.clock.now) (Err c.in-Err.refusal) c.args.store.now
    (g.K.Sink.taken c.args.to.now) (g.K.Sink.taken c.refuse.new.to) (g.K.Sink.faults c.args.to.now) (g.K.Sink.faults c.refuse.new.to) c.refuse.result.0 c.refuse.result.1
    (refl, c.refuse.ensures.refuses)
