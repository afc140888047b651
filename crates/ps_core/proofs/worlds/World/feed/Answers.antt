use Rattle.std.proofs.Common.{refl, arith}
use Rattle.ps_core.proofs.StoreSteps.{counted}
use Rattle.ps_core.proofs.WorldSteps.{left_of, went_feeding}
use Rattle.ps_core.proofs.worlds.World.feed.Goals as goal

pub feed-requires : goal.feed-requires
feed-requires c = let r = c.requires in (r.0, r.1, left_of r.0 c.args.self.now r.1 r.2)

pub returns-in-Ok : goal.returns-in-Ok
returns-in-Ok c = λ fixed play it.
    went_feeding c.places_are_fronts.ensures.stay fixed c.args.self.now _ play c.args.count c.in-Ok.effect it (c.in-Ok.ensures fixed play (left_of fixed c.args.self.now play it))
    (counted c.args.count (omega arith) (omega arith)) refl refl refl

pub returns-in-Err : goal.returns-in-Err
returns-in-Err c = λ fixed play it. counted c.args.count (omega arith) (omega arith)
