use Rattle.std.proofs.Common.{sym, subst}
use Rattle.ps_store.specs.Reach.{Reached, reached}
use Rattle.ps_store.specs.Tails.{Tied}
use Rattle.ps_store.proofs.Advancing.{tied_next}
use Rattle.ps_store.proofs.tails.Tail.next.Goals as goal

pub returns-clause-tied : goal.returns-clause-tied
returns-clause-tied c =
    subst (λ (r : Reached). Tied c.pop_front.new.self.items r) (sym c.wrote_one.ensures)
    (tied_next c.args.self.now.changes.items c.pop_front.new.self.items c.in-Some.waiting (reached c.args.self.now.reach) c.args.last.0 c.in-Some.ensures.items c.requires.tied)
