use Rattle.std.proofs.Common.{◌≤◌}
use Rattle.std.proofs.lemmas.List.Elements.{All-rest}
use Rattle.ps_rows.specs.declared.changes.Transaction.{Transaction}
use Rattle.ps_store.specs.Limits.{greatest}
use Rattle.ps_core.proofs.feeding.feed_next.Goals as goal

pub returns-in-Ok-clause-low : goal.returns-in-Ok-clause-low
returns-in-Ok-clause-low c =
    All-rest (λ (t : Transaction). t.position.0 ≤ greatest) c.in-Some-pop_front.next c.pop_front.new.self.items c.args.left.now.items c.in-Some-pop_front.ensures.items c.requires.low
