use Rattle.std.proofs.Common.{refl, arith}
use Rattle.ps_script.specs.declared.events.ScriptEvent.TheVariants as events
use Rattle.ps_core.proofs.StoreSteps.{counted}
use Rattle.ps_core.proofs.WorldSteps.{went_still}
use Rattle.ps_core.proofs.worlds.World.build.Goals as goal

pub returns-in-Ok : goal.returns-in-Ok
returns-in-Ok c = λ fixed play it.
    went_still c.places_are_fronts.ensures.stay fixed c.args.self.now _ play (events.Build c.args.limit) c.in-Ok.effect it (c.in-Ok.ensures fixed play it.stands) refl refl refl refl

pub returns-in-Err : goal.returns-in-Err
returns-in-Err c = λ fixed play it. counted c.args.limit (omega arith) (omega arith)
