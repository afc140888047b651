use Rattle.std.proofs.Common.{refl, ap, sym}
use Rattle.std.specs.Prelude.{is_some}
use Rattle.ps_script.specs.declared.events.ScriptEvent.TheVariants as events
use Rattle.ps_script.specs.declared.faults.ScriptFault.TheVariants.{WrongPhase}
use Rattle.ps_core.proofs.WorldSteps.{began, may_begin, refused_so, second_client}
use Rattle.ps_core.proofs.worlds.World.begin.Goals as goal

pub returns-in-Some : goal.returns-in-Some
returns-in-Some c = λ fixed play it.
    refused_so fixed c.args.self.now c.args.self.now play (events.Client c.args.name.now c.args.asker.now) WrongPhase it
    (second_client fixed c.args.self.now play c.args.name.now c.args.asker.now it (ap is_some (sym c.in-Some.ensures.value))) refl

pub returns-in-Ok : goal.returns-in-Ok
returns-in-Ok c = λ fixed play it.
    began c.places_are_fronts.ensures.stay fixed c.args.self.now _ play c.args.name.now c.args.asker.now c.in-Ok.effect it refl refl refl refl (ap is_some (sym c.in-None.ensures.value)) c.in-Ok.ensures

pub returns-in-Err : goal.returns-in-Err
returns-in-Err c = λ fixed play it. may_begin fixed c.args.self.now play c.args.name.now c.args.asker.now it (ap is_some (sym c.in-None.ensures.value))
