use Rattle.std.proofs.Common.{not, ◌++◌, ◌∷◌, [], ℕ, List, ap, ◌∙◌}
use Rattle.ps_session.specs.Takes.{removed}
use Rattle.ps_session.proofs.Changes.{removed_on, removed_off, matched}
use Rattle.ps_session.proofs.diffs.removed_names.Goals as goal
use Rattle.ps_session.proofs.diffs.removed_names.Goals.{then-is_none+in_ok-copy+in_ok-push, else-is_none}

pub buckets-preserved : goal.buckets-preserved
buckets-preserved c =
    let old = c.args.old.now in
    let new = c.args.new.now in
    let b = c.index-old-place.result in
    let m = c.index.result.now in
    let i = c.buckets.place in
    let match = c.index.ensures ∙ matched old new c.in_ok-matches.matches.items i b m c.buckets-test.true c.index-old-place.is c.in_ok-matches.ensures in
    elim c.if-is_none.branch [
      | then-is_none+in_ok-copy+in_ok-push w ↦
          removed_off old new c.buckets.names.items c.if-is_none.names.items (removed old new) i b m c.buckets-test.true c.index-old-place.is match (c.is_none.ensures ∙ ap not w.if-is_none.true)
          (ap (λ v. v.items) w.names-is ∙ w.in_ok-push.ensures.items ∙ ap (λ (n : List ℕ). c.buckets.names.items ++ n ∷ []) w.in_ok-copy.ensures) c.buckets.invariant
      | else-is_none w ↦
          removed_on old new c.buckets.names.items c.if-is_none.names.items (removed old new) i b m c.buckets-test.true c.index-old-place.is match (c.is_none.ensures ∙ ap not w.if-is_none.false)
          (ap (λ v. v.items) w.names-is) c.buckets.invariant
    ]
