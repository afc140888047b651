use Rattle.std.proofs.Common.{ap}
use Rattle.ps_serve.specs.declared.ways.Way.{Way}
use Rattle.std.specs.Prelude.{ℕ, List}
use Rattle.ps_serve.specs.Requests.{length_for, asked_stream, asked_for}
use Rattle.ps_serve.proofs.Behind.{own_stream, not_admitted, number_asks, body_refused, body_asks}
use Rattle.ps_serve.proofs.requests.asked_behind.Goals as goal

pub returns-in-Err-clause-asks : goal.returns-in-Err-clause-asks
returns-in-Err-clause-asks g c =
    not_admitted c.args.keys.now c.args.now c.args.head.now (g.S.Source.input c.args.from.now) (g.S.Source.faults c.args.from.now) (g.S.Source.faults c.args.from.now) c.in-Err.refusal c.in-Err.ensures

pub returns-in-Number-clause-asks : goal.returns-in-Number-clause-asks
returns-in-Number-clause-asks g c =
    number_asks c.args.keys.now c.args.now c.args.head.now c.in-Ok.pass c.in-Ok.ensures (g.S.Source.input c.args.from.now) (g.S.Source.faults c.args.from.now) (g.S.Source.faults c.args.from.now)
    c.asked_number.result c.in-Number.is c.asked_number.ensures.reads

pub returns-in-Stream-clause-asks : goal.returns-in-Stream-clause-asks
returns-in-Stream-clause-asks g c =
    body_refused c.args.keys.now c.args.now c.args.head.now c.in-Ok.pass c.in-Ok.ensures (g.S.Source.input c.args.from.now) (g.S.Source.input c.body_behind.new.from)
    (g.S.Source.faults c.args.from.now) (g.S.Source.faults c.body_behind.new.from) c.in-Err-body_behind.refusal
    (ap (λ (way : Way). length_for way c.args.head.now) c.in-Stream.is) c.in-Err-body_behind.ensures.body

pub returns-clause-asks : goal.returns-clause-asks
returns-clause-asks g c =
    body_refused c.args.keys.now c.args.now c.args.head.now c.in-Ok.pass c.in-Ok.ensures (g.S.Source.input c.args.from.now) (g.S.Source.input c.body_behind-in-Upload.new.from)
    (g.S.Source.faults c.args.from.now) (g.S.Source.faults c.body_behind-in-Upload.new.from) c.in-Err-body_behind-2.refusal
    (ap (λ (way : Way). length_for way c.args.head.now) c.in-Upload.is) c.in-Err-body_behind-2.ensures.body

pub returns-in-Ok-body_behind-clause-asks : goal.returns-in-Ok-body_behind-clause-asks
returns-in-Ok-body_behind-clause-asks g c =
    body_asks c.args.keys.now c.args.now c.args.head.now c.in-Ok.pass c.in-Ok.ensures c.in-Ok-body_behind.body.items c.as_slice.result.now (asked_stream c.in-Ok.pass.claims)
    (g.S.Source.input c.args.from.now) (g.S.Source.input c.body_behind.new.from) (g.S.Source.faults c.args.from.now) (g.S.Source.faults c.body_behind.new.from) c.asked_stream.result
    (ap (λ (way : Way). length_for way c.args.head.now) c.in-Stream.is) (λ (bytes : List ℕ). ap (λ (way : Way). asked_for way c.in-Ok.pass.claims c.args.head.now bytes) c.in-Stream.is)
    (own_stream c.in-Ok.pass.claims) c.in-Ok-body_behind.ensures.body c.as_slice.ensures.value c.asked_stream.ensures.reads
