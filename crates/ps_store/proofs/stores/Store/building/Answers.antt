use Rattle.std.proofs.Common.{sym, ap}
use Rattle.std.specs.Prelude.{option_map}
use Rattle.ps_store.specs.Generations.{Coming}
use Rattle.ps_store.proofs.Abandoning.{none_built, number_is}
use Rattle.ps_store.proofs.stores.Store.building.Goals as goal

pub returns-in-Some : goal.returns-in-Some
returns-in-Some c = λ fixed history h. sym (number_is fixed c.args.self.now history h c.in-Some.building c.in-Some.is)

pub returns-in-None : goal.returns-in-None
returns-in-None c = λ fixed history h. sym (ap (option_map (λ (coming : Coming). coming.lane.number)) (none_built fixed c.args.self.now history h c.in-None.is))
