use Rattle.std.proofs.Common.{ℕ, Err, ap, sym, subst, ◌∙◌}
use Rattle.ps_script.specs.declared.events.ScriptEvent.TheVariants as events
use Rattle.ps_core.specs.declared.effects.Effect.TheVariants as effects
use Rattle.ps_core.specs.Parts.{CameTo}
use Rattle.ps_core.proofs.Written.{may_number, number_full, number_so}
use Rattle.ps_core.proofs.writing.number.Goals as goal

pub returns-in-Err-NumberFull : goal.returns-in-Err-NumberFull
returns-in-Err-NumberFull c = λ fixed play name it.
    subst (λ (n : ℕ). CameTo fixed play (events.Number name) name c.write_checkpoint.new.self c.args.reader.now (effects.NumberFull n)) (sym c.in-Err-NumberFull.last-is)
    (number_full fixed play name c.args.store.now c.args.reader.now it c.in-Some.client c.in-Some.is c.write_checkpoint.new.self c.in-Err-NumberFull.last
    (rw (c.in-Err-NumberFull.is ∙ ap Err c.in-Err-NumberFull.field-0-is) at (c.write_checkpoint.ensures fixed play.history it.serves)))

pub returns-in-Ok-aim : goal.returns-in-Ok-aim
returns-in-Ok-aim c = λ fixed play name it.
    number_so fixed play name c.args.store.now c.args.reader.now it c.in-Some.client c.in-Some.is c.places_are_fronts.ensures.stay c.write_checkpoint.new.self c.aim.new.reader c.in-Ok.number c.head-head.result
    (c.in-Ok.ensures fixed play.history it.serves) (c.head-head.ensures fixed play.history it.serves) c.in-Ok-aim.ensures.asker c.in-Ok-aim.ensures.stream c.in-Ok-aim.ensures.client

pub returns-in-Err-Memory : goal.returns-in-Err-Memory
returns-in-Err-Memory c = λ fixed play name it. may_number fixed play name c.args.store.now c.args.reader.now it c.in-Some.client c.in-Some.is

pub returns-in-Err : goal.returns-in-Err
returns-in-Err c = λ fixed play name it. may_number fixed play name c.args.store.now c.args.reader.now it c.in-Some.client c.in-Some.is
