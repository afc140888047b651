-- Whole scripts.
use Rattle.std.proofs.Common.{List, [], ◌∷◌}
use Rattle.ps_store.specs.declared.fixed.Fixed.{Fixed}
use Rattle.ps_store.specs.Limits.{AreWithin}
use Rattle.ps_script.specs.declared.events.ScriptEvent.{ScriptEvent}
use Rattle.ps_core.specs.Plays.{Play, Outcome, first_play}
use Rattle.ps_core.specs.PlayHeadline.{AreLed, PlaysBeginLed, PlaysStayLed}
use Rattle.ps_core.specs.Scripts.{AreRight, ArePlayed, ScriptsAreRight}
use Rattle.ps_core.proofs.Legal.{IsSound, event_sound}
use Rattle.ps_definitions.specs.RuleSets.{AreRules}
use Rattle.ps_store.specs.Laws.{HaveNumbers}

all_right : (events : List ScriptEvent) (outcomes : List Outcome) → PlaysStayLed → (fixed : Fixed) → AreRules fixed.rules → HaveNumbers fixed.rules.definitions → AreWithin fixed.limits
    → (play : Play) → IsSound fixed.rules play → AreLed fixed play → ArePlayed fixed play events outcomes → AreRight fixed play events outcomes
all_right [] outcomes stay fixed rules numbers within play sound led played = tt
all_right (event ∷ events) [] stay fixed rules numbers within play sound led played = tt
all_right (event ∷ events) (outcome ∷ outcomes) stay fixed rules numbers within play sound led played =
    let after = event_sound event fixed play outcome within sound played.0.gives in
    let it = stay fixed play event outcome rules numbers sound.legal after.legal played.0 led in
    (it.1, all_right events outcomes stay fixed rules numbers within outcome.play after it.0 played.1)

pub scripts_right : PlaysBeginLed → PlaysStayLed → ScriptsAreRight
scripts_right begin stay fixed transactions next events outcomes rules numbers within low valid played =
    all_right events outcomes stay fixed rules numbers within (first_play transactions next) (record { legal = tt; low = low; next = valid }) (begin fixed transactions next) played
