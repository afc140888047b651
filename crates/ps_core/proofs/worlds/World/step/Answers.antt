use Rattle.std.proofs.Common.{Err, refl, ap, ◌∙◌}
use Rattle.ps_core.proofs.WorldSteps.{gave, standing, still_world}
use Rattle.ps_core.proofs.worlds.World.step.Goals as goal

pub happen-requires : goal.happen-requires
happen-requires c = standing c.args.self.now c.requires c.if-self.false

pub returns-in-Ok-clause-world : goal.returns-in-Ok-clause-world
returns-in-Ok-clause-world c =
    let r = standing c.args.self.now c.requires c.if-self.false in
    still_world r.0 r.1 c.args.event.now _ c.in-Ok.effect (c.in-Ok.ensures r.0 r.1 r.2)

pub returns-in-Ok-clause-plays : goal.returns-in-Ok-clause-plays
returns-in-Ok-clause-plays c = λ fixed play it. gave c.plays_stay_led.ensures fixed c.args.self.now _ play c.args.event.now c.in-Ok.effect it (c.in-Ok.ensures fixed play it)

pub returns-in-Err-Memory-clause-plays : goal.returns-in-Err-Memory-clause-plays
returns-in-Err-Memory-clause-plays c = λ fixed play it. (refl, rw (c.in-Err-Memory.is ∙ ap Err c.in-Err-Memory.field-0-is) at (c.happen.ensures fixed play it))
