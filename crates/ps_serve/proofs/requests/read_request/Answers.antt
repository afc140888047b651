use Rattle.ps_serve.proofs.Asking.{asked_whole}
use Rattle.ps_serve.proofs.requests.read_request.Goals as goal

pub returns-clause-asks : goal.returns-clause-asks
returns-clause-asks g c =
    asked_whole (g.C.Clock.may_give c.args.clock.now) c.args.keys.now c.now.result c.in-Ok.head
    (g.S.Source.input c.args.from.now) (g.S.Source.input c.read_head.new.from) (g.S.Source.input c.asked_behind.new.from)
    (g.S.Source.faults c.args.from.now) (g.S.Source.faults c.read_head.new.from) (g.S.Source.faults c.asked_behind.new.from)
    c.in-Ok.ensures.answer c.now.ensures c.read_head.ensures.faults c.asked_behind.result c.asked_behind.ensures.asks
