use Rattle.std.proofs.Common.{◌∙◌, ap}
use Rattle.ps_session.specs.Kept.{state_of}
use Rattle.ps_serve.specs.Turning.{turn_for}
use Rattle.ps_serve.proofs.Readings.{completing_downloads, reading_downloads}
use Rattle.ps_serve.proofs.Running.{sends_so, sends_taking}
use Rattle.ps_serve.proofs.streams.make_turn.Goals as goal

pub returns-in-Take-clause-sends : goal.returns-in-Take-clause-sends
returns-in-Take-clause-sends g c = λ fixed history serves here.
    sends_taking c.args.action (g.C.Clock.may_give c.args.clock.now) c.args.exp fixed history c.args.session.now.asker (turn_for fixed history c.args.session.now).line
    (g.K.Sink.taken c.args.to.now) (g.K.Sink.taken c.take_again.new.to) (g.K.Sink.faults c.args.to.now) (g.K.Sink.faults c.take_again.new.to) c.take_again.result
    c.in-Take.is (c.take_again.ensures.sends fixed history serves here)
