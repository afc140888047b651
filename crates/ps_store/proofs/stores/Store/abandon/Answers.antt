use Rattle.std.proofs.Common.{ℕ, sym, subst}
use Rattle.std.specs.Prelude.{Ok}
use Rattle.ps_store.specs.Deploys.{Abandons}
use Rattle.ps_store.specs.StoreGenerations.{Abandons as AreAbandoned}
use Rattle.ps_store.proofs.Abandoning.{abandon_places, abandon_done, abandon_none, none_built}
use Rattle.ps_store.proofs.stores.Store.abandon.Goals as goal

pub abandon-requires : goal.abandon-requires
abandon-requires c = abandon_places c.requires.0 c.args.self.now c.requires.1 c.requires.2

pub returns-in-Some : goal.returns-in-Some
returns-in-Some c = λ fixed history h.
    let said = subst (AreAbandoned c.args.self.now.generations c.abandon.new.self) c.in-Some.is c.abandon.ensures in
    subst (λ (n : ℕ). Abandons fixed history (record c.args.self.now { generations = c.abandon.new.self }) (Ok n)) (sym said.2)
    (abandon_done fixed c.args.self.now history h c.abandon.new.self said.0 said.1)

pub returns-in-None : goal.returns-in-None
returns-in-None c = λ fixed history h.
    let said = subst (AreAbandoned c.args.self.now.generations c.abandon.new.self) c.in-None.is c.abandon.ensures in
    (none_built fixed c.args.self.now history h said.0, abandon_none fixed c.args.self.now history h c.abandon.new.self said.0 said.1 tt)
