use Rattle.std.proofs.Common.{refl, sym, ap, ◌∙◌}
use Rattle.ps_script.specs.declared.events.ScriptEvent.TheVariants as events
use Rattle.ps_script.specs.declared.faults.ScriptFault.TheVariants.{WrongPhase}
use Rattle.ps_core.specs.PlaySteps.{ruleless}
use Rattle.ps_core.proofs.WorldSteps.{refused_so, went_still}
use Rattle.ps_core.proofs.worlds.World.deploy.Goals as goal

pub returns-in-None : goal.returns-in-None
returns-in-None c = λ fixed play it.
    refused_so fixed c.args.self.now c.args.self.now play events.Deploy WrongPhase it (ap ruleless (sym it.next ∙ c.in-None.is)) refl

pub returns-in-Ok : goal.returns-in-Ok
returns-in-Ok c = λ fixed play it.
    went_still c.places_are_fronts.ensures.stay fixed c.args.self.now _ play events.Deploy c.in-Ok.effect it (c.in-Ok.ensures fixed play it.stands (sym it.next ∙ c.in-Some.is)) refl refl refl refl

pub returns-in-Err : goal.returns-in-Err
returns-in-Err c = λ fixed play it. ap ruleless (sym it.next ∙ c.in-Some.is)
