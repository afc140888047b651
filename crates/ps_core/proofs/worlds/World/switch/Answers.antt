use Rattle.std.proofs.Common.{refl}
use Rattle.ps_script.specs.declared.events.ScriptEvent.TheVariants as events
use Rattle.ps_core.proofs.WorldSteps.{went_still}
use Rattle.ps_core.proofs.worlds.World.switch.Goals as goal

pub returns : goal.returns
returns c = λ fixed play it. went_still c.places_are_fronts.ensures.stay fixed c.args.self.now _ play events.Switch c.switch.result it (c.switch.ensures fixed play it.stands) refl refl refl refl
