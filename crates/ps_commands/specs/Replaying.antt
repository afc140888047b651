-- What the script of `replay` gives.
use Rattle.std.specs.Prelude.{◌≡◌, ℕ, ◌+◌, List, ◌∷◌, ◌++◌, length, Option, Some, None, Result, Ok, Err}
use Rattle.std.specs.Borrow.{Bor}
use Rattle.ps_io.specs.Contents.{Contents, Gains, GainsFront}
use Rattle.ps_io.specs.Counts.{Rose}
use Rattle.ps_rows.specs.declared.changes.Transaction.{Transaction}
use Rattle.ps_definitions.specs.RuleSets.{RuleSet}
use Rattle.ps_script.specs.declared.faults.ScriptFault.{ScriptFault}
use Rattle.ps_script.specs.declared.faults.ScriptFault.TheVariants as scripts
use Rattle.ps_script.specs.Lines.{lines_of}
use Rattle.ps_store.specs.declared.fixed.Fixed.{Fixed}
use Rattle.ps_store.specs.Limits.{usual_limits}
use Rattle.ps_core.specs.Plays.{Play, first_play}
use Rattle.ps_commands.specs.Scripts.{PlaysLines, RefusesLine}
use Rattle.ps_commands.specs.Replays.{Output, PlaysSome}
use Rattle.ps_files.specs.declared.faults.Fault.{Fault}
use Rattle.ps_files.specs.declared.faults.Fault.TheVariants.{Usage, Rules, Change, PastLimit, TooManyBuckets, Claims, Keys, TooLong, CannotRead, CannotWrite, Script, Memory}
use Rattle.ps_files.specs.HeldFiles.{rules_limit}
use Rattle.ps_files.specs.Loading.{Loads, FindsRules, IsNextFault}
use Rattle.ps_files.specs.declared.faults.ScriptCause.{ScriptCause}
use Rattle.ps_files.specs.declared.faults.ScriptCause.TheVariants.{BadEvent, UnknownClient, WrongPhase}

-- a script, over rules, the rules that its deploys take, and the transactions that its events feed
pub record Game : Type 0 where
  pub rules : RuleSet
  pub next : Option RuleSet
  pub transactions : List Transaction
  pub script : List ℕ

-- the rules, under the usual limits
abbrev pub fixed_of : Game → Fixed
fixed_of game = record { rules = game.rules; limits = usual_limits }

-- nothing is fed yet, and no client is there
abbrev pub start_of : Game → Play
start_of game = first_play game.transactions game.next

-- why a line is refused
abbrev pub script_fault : ScriptCause → ScriptFault
script_fault BadEvent = scripts.BadEvent
script_fault UnknownClient = scripts.UnknownClient
script_fault WrongPhase = scripts.WrongPhase

-- ---- texts

-- the texts of all lines, of which none leads a client wrong
abbrev pub GivesAll : Game → List ℕ → Type 0
GivesAll game text = (after : Play) × PlaysLines (fixed_of game) (start_of game) (lines_of game.script) text after

-- the texts of some first lines
abbrev pub GivesSome : Game → List ℕ → Type 0
GivesSome game text = PlaysSome (fixed_of game) (start_of game) game.script text

-- the line of that number, from 1 on, is the first that is refused, and that is why; the texts of the lines before it
pub record PlaysUntil (fixed : Fixed) (play : Play) (script : List ℕ) (number : ℕ) (why : ScriptCause) (text : List ℕ) : Type 0 where
  pub front : List (List ℕ)
  pub line : List ℕ
  pub rest : List (List ℕ)
  pub lines_are : lines_of script ≡ front ++ line ∷ rest
  pub number_is : number ≡ length front + 1
  pub after : Play
  pub plays : PlaysLines fixed play front text after
  pub refused : RefusesLine after line (script_fault why)

abbrev pub GivesUntil : Game → ℕ → ScriptCause → List ℕ → Type 0
GivesUntil game number why text = PlaysUntil (fixed_of game) (start_of game) game.script number why text

-- ---- a call

-- a fault of a line that has this number; out of memory is of none
abbrev pub stopped_by : ℕ → ScriptFault → Fault
stopped_by number scripts.BadEvent = Script number BadEvent
stopped_by number scripts.UnknownClient = Script number UnknownClient
stopped_by number scripts.WrongPhase = Script number WrongPhase
stopped_by number scripts.Memory = Memory

-- what the output took of a script, and how it ended
abbrev pub PlaysOut : Game → Output → Result (Unit {0}) Fault → Type 0
PlaysOut game out (Ok done) = (text : List ℕ) × GivesAll game text × Gains out.old out.new text
PlaysOut game out (Err Usage) = ⊥
PlaysOut game out (Err (Rules which line column why)) = ⊥
PlaysOut game out (Err (Change line why)) = ⊥
PlaysOut game out (Err (PastLimit limit)) = ⊥
PlaysOut game out (Err (TooManyBuckets count)) = ⊥
PlaysOut game out (Err Claims) = ⊥
PlaysOut game out (Err Keys) = ⊥
PlaysOut game out (Err (TooLong seen)) = ⊥
PlaysOut game out (Err (CannotRead name)) = ⊥
PlaysOut game out (Err CannotWrite) = (text : List ℕ) × GivesSome game text × GainsFront out.old out.new text × Rose out.before out.now
PlaysOut game out (Err (Script line why)) = (text : List ℕ) × GivesUntil game line why text × Gains out.old out.new text
PlaysOut game out (Err Memory) = (text : List ℕ) × GivesSome game text × Gains out.old out.new text

-- ---- the file of the next rules

-- where one is named, it is loaded
abbrev pub FindsNext : Option RuleSet → List ℕ → Type 0
FindsNext None bytes = ⊥
FindsNext (Some rules) bytes = FindsRules rules bytes

abbrev pub LoadsNone : Result (Option RuleSet) Fault → Type 0
LoadsNone (Ok None) = Unit {0}
LoadsNone (Ok (Some rules)) = ⊥
LoadsNone (Err fault) = ⊥

abbrev pub LoadsNext : Option Contents → Option (Bor (List ℕ)) → ℕ → ℕ → Result (Option RuleSet) Fault → Type 0
LoadsNext held None before now result = LoadsNone result
LoadsNext held (Some name) before now result = Loads held name.now rules_limit before now FindsNext IsNextFault result
