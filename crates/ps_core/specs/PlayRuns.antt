-- The streams of scripts are runs of their sessions.
use Rattle.std.specs.Prelude.{◌≡◌, ℕ, List, Option, Some}
use Rattle.ps_rows.specs.declared.changes.Transaction.{Transaction}
use Rattle.ps_definitions.specs.RuleSets.{RuleSet}
use Rattle.ps_store.specs.declared.fixed.Fixed.{Fixed}
use Rattle.ps_store.specs.Courses.{Course}
use Rattle.ps_streams.specs.Lives.{Link, Idle, Streaming}
use Rattle.ps_streams.specs.RunsTo.{IsRunTo}
use Rattle.ps_script.specs.declared.events.ScriptEvent.{ScriptEvent}
use Rattle.ps_core.specs.Plays.{Play, Reader, Outcome, course, first_play, place}
use Rattle.ps_core.specs.PlaySteps.{Comes}

-- the session of a stream is where a run over the readings of its asker leads, whose places climb up to this one
abbrev pub IsRunOn : Course → ℕ → Link → Type 0
IsRunOn course n Idle = Unit {0}
IsRunOn course n (Streaming at session waiting) = IsRunTo course n at session

-- so it is for each client of a play
abbrev pub AreRuns : Fixed → Play → Type 0
AreRuns fixed play = (name : List ℕ) (reader : Reader) → play.readers name ≡ Some reader
    → IsRunOn (course fixed play.history reader.asker) (place play) reader.link

-- and after each event of a script
abbrev pub PlaysStayRuns : Type 0
PlaysStayRuns = (fixed : Fixed) (play : Play) (event : ScriptEvent) (outcome : Outcome) → Comes fixed play event outcome → AreRuns fixed play → AreRuns fixed outcome.play

-- before the first event there is no client
abbrev pub PlaysBeginRuns : Type 0
PlaysBeginRuns = (fixed : Fixed) (transactions : List Transaction) (next : Option RuleSet) → AreRuns fixed (first_play transactions next)
