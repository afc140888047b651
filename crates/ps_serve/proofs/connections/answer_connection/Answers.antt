use Rattle.std.proofs.Common.{Ok, length}
use Rattle.ps_lock.specs.Words.{own_entries_of, seen_by}
use Rattle.ps_workers.specs.Sharing.{fixed_of}
use Rattle.ps_serve.proofs.Draining.{drains}
use Rattle.ps_serve.proofs.connections.answer_connection.Goals as goal

pub returns-in-Ok-clause-answers : goal.returns-in-Ok-clause-answers
returns-in-Ok-clause-answers g c = record {
  it = Ok c.in-Ok.asked;
  asks = c.in-Ok.ensures.asks;
  does = c.answer.ensures.does;
  drains = drains (g.C.Clock.may_give c.args.clock.now) (fixed_of c.args.lock.now) (length (seen_by c.args.seat)) (seen_by c.answer.result.0) c.args.site.now.until_drained
      (own_entries_of c.args.seat) (own_entries_of c.answer.result.0) (g.K.Sink.taken c.args.to.now) (g.K.Sink.taken c.answer.new.to)
      (g.K.Sink.faults c.args.to.now) (g.K.Sink.faults c.answer.new.to) c.answer.result.1 (Ok c.in-Ok.asked) c.answer.ensures.does;
}
