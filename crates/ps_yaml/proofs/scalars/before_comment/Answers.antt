use Rattle.ps_yaml.proofs.Parts.{comment_step}
use Rattle.std.proofs.Common.{sym, ◌∙◌}
use Rattle.ps_yaml.proofs.scalars.before_comment.Goals as goal

pub bytes-preserved : goal.bytes-preserved
bytes-preserved c =
    let held = c.bytes.invariant in
    let step = comment_step c.args.text.now c.bytes.rest.now c.bytes.taken c.in-Some.first.now c.in-Some.others.now held.value held.rest c.in-Some.ensures.cases.0 (sym c.begins_comment.ensures ∙ c.if-begins_comment.false) in
    record { value = step.0; rest = step.1; within = step.2 }
