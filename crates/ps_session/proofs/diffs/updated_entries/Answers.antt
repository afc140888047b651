use Rattle.std.proofs.Common.{◌++◌, ◌∷◌, [], None, get_or, sym, ap, ◌∙◌}
use Rattle.ps_lines.specs.declared.lines.Entry.{Entry}
use Rattle.ps_session.proofs.Changes.{updated_on, updated_off, entries_of, matched}
use Rattle.ps_session.proofs.diffs.updated_entries.Goals as goal
use Rattle.ps_session.proofs.diffs.updated_entries.Goals.{then-not-is_as+in_ok-entry_of+in_ok-push, else-not-is_as}

pub buckets-preserved : goal.buckets-preserved
buckets-preserved c =
    let old = c.args.old.now in
    let new = c.args.new.now in
    let b = c.index-new-place.result in
    let i = c.buckets.place in
    let m = get_or c.args.matches.now i None in
    let match = matched new old c.args.matches.now i b None c.buckets-test.true c.index-new-place.is c.requires in
    elim c.if-not-is_as.branch [
      | then-not-is_as+in_ok-entry_of+in_ok-push w ↦
          updated_off old new c.buckets.entries.items c.if-not-is_as.entries.items (entries_of old new) i b m c.buckets-test.true c.index-new-place.is match (sym c.is_as.ensures ∙ w.if-not-is_as.true)
          (ap (λ v. v.items) w.entries-is ∙ w.in_ok-push.ensures.items ∙ ap (λ (e : Entry). c.buckets.entries.items ++ e ∷ []) w.in_ok-entry_of.ensures) c.buckets.invariant
      | else-not-is_as w ↦
          updated_on old new c.buckets.entries.items c.if-not-is_as.entries.items (entries_of old new) i b m c.buckets-test.true c.index-new-place.is match (sym c.is_as.ensures ∙ w.if-not-is_as.false)
          (ap (λ v. v.items) w.entries-is) c.buckets.invariant
    ]
