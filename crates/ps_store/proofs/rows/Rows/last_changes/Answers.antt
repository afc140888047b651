use Rattle.std.proofs.Common.{List, ◌++◌, ap, ◌∙◌, map}
use Rattle.ps_store.specs.Generations.{last_change}
use Rattle.ps_store.specs.Originals.{Timed}
use Rattle.ps_store.proofs.MomentsSorted.{live_is, queue_sorted}
use Rattle.ps_store.proofs.rows.Rows.last_changes.Goals as goal

pub returns : goal.returns
returns c = λ source rows own.
    c.push_all.ensures
    ∙ ap (λ (us : List Timed). us ++ c.sort_by_moment.new.changes.items) (c.in_ok-reserve.ensures.items ∙ c.new-queue.ensures.items)
    ∙ queue_sorted source c.in_ok-changes.changes.items c.sort_by_moment.new.changes.items own
    (c.in_ok-changes.ensures ∙ ap (map last_change) (live_is c.args.self.now.places.entries source c.len-count.ensures.ordered own.sorted rows))
    c.sort_by_moment.ensures.same c.sort_by_moment.ensures.sorted
