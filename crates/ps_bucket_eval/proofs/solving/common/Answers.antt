use Rattle.std.proofs.Common.{sym, ◌∙◌}
use Rattle.ps_bucket_eval.proofs.Taking.{taken, left}
use Rattle.ps_bucket_eval.proofs.solving.common.Goals as goal

pub values-preserved-in-Continue-1 : goal.values-preserved-in-Continue-1
values-preserved-in-Continue-1 c =
    taken c.args.values c.values.both c.push.new.self c.values.value-iterator.rest.items c.next.new.self.rest.items c.args.set.now.keys c.in-Some.value c.values.invariant c.in-Some.ensures.steps.0 c.in_ok-push.ensures.ok (sym c.has.ensures ∙ c.if-has.true)

pub values-preserved-else-has : goal.values-preserved-else-has
values-preserved-else-has c =
    left c.args.values c.values.both c.values.value-iterator.rest.items c.next.new.self.rest.items c.args.set.now.keys c.in-Some.value c.values.invariant c.in-Some.ensures.steps.0 (sym c.has.ensures ∙ c.if-has.false)

pub values-preserved : goal.values-preserved
values-preserved c =
    left c.args.values c.values.both c.values.value-iterator.rest.items c.next.new.self.rest.items c.args.set.now.keys c.in-Some.value c.values.invariant c.in-Some.ensures.steps.0 (sym c.has.ensures ∙ c.if-has.false)
