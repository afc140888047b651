use Rattle.std.proofs.Common.{true, cond, ap, ◌∙◌}
use Rattle.std.specs.BTreeSet.{contains}
use Rattle.std.specs.Ordering.{is_eq}
use Rattle.ps_store.specs.Places.{place_cmp}
use Rattle.ps_audit.proofs.Entering.{places_more}
use Rattle.ps_audit.proofs.standing.places_of.Goals as goal

pub entries-preserved : goal.entries-preserved
entries-preserved c =
    places_more c.args.entries.now c.entries.entry-index c.entry-item.result c.entries-test.true c.entry-item.is c.entries.places c.insert.new.self
    (λ q. c.in_ok-insert.ensures.updates.0 q ∙ ap (λ place. cond (is_eq (place_cmp place q)) true (contains place_cmp c.entries.places q)) c.in_ok-place_of.ensures)
    c.entries.invariant
