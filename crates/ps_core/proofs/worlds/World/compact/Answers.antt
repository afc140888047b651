use Rattle.std.proofs.Common.{refl}
use Rattle.ps_script.specs.declared.events.ScriptEvent.TheVariants as events
use Rattle.ps_core.proofs.WorldSteps.{went_still}
use Rattle.ps_core.proofs.worlds.World.compact.Goals as goal

pub returns-in-Ok : goal.returns-in-Ok
returns-in-Ok c = λ fixed play it.
    went_still c.places_are_fronts.ensures.stay fixed c.args.self.now _ play (events.Compact c.args.bucket.now) c.in-Ok.effect it (c.in-Ok.ensures fixed play it.stands) refl refl refl refl
