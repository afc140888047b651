use Rattle.std.proofs.Common.{refl, arith}
use Rattle.ps_journal.proofs.Spans.{apart_more, not_apart, apart_all}
use Rattle.ps_journal.proofs.crashes.is_apart.Goals as goal

pub spans-preserved : goal.spans-preserved
spans-preserved c = apart_more c.args.place c.args.spans.now c.spans.span-index c.spans-test.true c.spans.invariant (c.covers.ensures.outside c.if-covers.false)

pub returns-then-covers : goal.returns-then-covers
returns-then-covers c = (λ t. absurd (cc), λ apart. absurd (not_apart c.args.place c.args.spans.now c.spans.span-index c.spans-test.true (c.covers.ensures.inside c.if-covers.true) apart))

pub returns : goal.returns
returns c = (λ t. apart_all c.args.place c.args.spans.now c.spans.span-index (omega (arith, c.spans-test.false)) c.spans.invariant, λ apart. refl)
