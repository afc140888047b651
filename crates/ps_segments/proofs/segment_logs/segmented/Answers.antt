use Rattle.std.proofs.Common.{List, [], ◌∷◌, ◌++◌, ap, subst, sym, ◌∙◌}
use Rattle.std.specs.Vec.Iter.{into_iter_items}
use Rattle.ps_bucket_log.specs.declared.ops.Op.{Op}
use Rattle.ps_bucket_log.specs.Logs.{IsLog}
use Rattle.ps_segments.proofs.Fronts.{IsLog-front}
use Rattle.ps_segments.proofs.segment_logs.segmented.Goals as goal

pub put-requires-clause-log : goal.put-requires-clause-log
put-requires-clause-log c =
    let whole = sym c.ops.invariant ∙ ap (λ (ops : List Op). c.ops.log.ops ++ ops) c.in-Some.ensures.steps.0 in
    let log = IsLog-front c.ops.log.ops c.in-Some.op (into_iter_items c.next.new.self) (subst IsLog whole c.requires) in
    subst (λ (ops : List Op). IsLog (ops ++ c.in-Some.op ∷ [])) (sym c.in_ok-reserve.ensures.same) log
