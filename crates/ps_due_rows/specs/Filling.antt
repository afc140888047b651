-- Filling a store by the lines of a first copy, and what any file that is fed leaves.
use Rattle.std.specs.Prelude.{◌≡◌, ℕ, ◌+◌, ◌≤◌, false, List, [], ◌∷◌, ◌++◌, length, Option, Result, Ok, Err}
use Rattle.std.specs.Borrow.{Bor}
use Rattle.ps_rows.specs.declared.changes.Transaction.{Transaction}
use Rattle.ps_definitions.specs.RuleSets.{RuleSet}
use Rattle.ps_store.specs.declared.events.Event.{Event}
use Rattle.ps_store.specs.declared.stores.Store.{Store}
use Rattle.ps_store.specs.Histories.{has_deploy}
use Rattle.ps_store.specs.Laws.{last_position}
use Rattle.ps_store.specs.Ledgers.{ledger_of}
use Rattle.ps_store.specs.Stores.{StoreStandsFor}
use Rattle.ps_file_lines.specs.Lines.{lines_of}
use Rattle.ps_snapshot.specs.declared.faults.FillFault.{FillFault}
use Rattle.ps_snapshot.specs.declared.faults.FillFault.TheVariants.{LineTooLong, BadJson, BadShape, BadPosition, BadValue, BadChunk, NotRising, NotCovered, TooWide, OpsFull}
use Rattle.ps_snapshot.specs.declared.faults.FillFault.TheVariants as filling
use Rattle.ps_snapshot.specs.declared.fillings.Filling.{Filling}
use Rattle.ps_snapshot.specs.declared.lines.Line.{Line}
use Rattle.ps_snapshot.specs.FirstCopies.{nothing, copy_of}
use Rattle.ps_snapshot.specs.Fillings.{Fills}
use Rattle.ps_files.specs.declared.faults.Fault.{Fault}
use Rattle.ps_files.specs.declared.faults.Fault.TheVariants.{Usage, Rules, Change, PastLimit, TooManyBuckets, Claims, Keys, TooLong, CannotRead, CannotWrite, Script, Memory}
use Rattle.ps_files.specs.declared.faults.Limit.TheVariants.{LineBytes, Entries, Operations}
use Rattle.ps_files.specs.declared.faults.LineFault.TheVariants as line_faults
use Rattle.ps_files.specs.ReadingChanges.{usual, lines_left, bytes_left}
use Rattle.ps_due_rows.specs.FirstCopies.{taken_at, copied_from}

-- ---- faults

-- a fault of lines is that of what they mean; where it is out of memory nothing is said
abbrev pub IsLineFault : {X : Type 0} → Result X Fault → Fault → Type 0
IsLineFault meant Usage = ⊥
IsLineFault meant (Rules which line column why) = ⊥
IsLineFault meant (Change line why) = meant ≡ Err (Change line why)
IsLineFault meant (PastLimit limit) = meant ≡ Err (PastLimit limit)
IsLineFault meant (TooManyBuckets count) = ⊥
IsLineFault meant Claims = ⊥
IsLineFault meant Keys = ⊥
IsLineFault meant (TooLong seen) = ⊥
IsLineFault meant (CannotRead name) = ⊥
IsLineFault meant CannotWrite = ⊥
IsLineFault meant (Script place cause) = ⊥
IsLineFault meant Memory = Unit {0}

-- why a filling refused the line of that number
abbrev pub refused_at : ℕ → FillFault → Fault
refused_at number (LineTooLong length) = PastLimit (LineBytes length)
refused_at number BadJson = Change number line_faults.BadJson
refused_at number BadShape = Change number line_faults.BadShape
refused_at number BadPosition = Change number line_faults.BadPosition
refused_at number BadValue = Change number line_faults.BadValue
refused_at number BadChunk = Change number line_faults.BadChunk
refused_at number (NotRising last given) = Change number (line_faults.NotRising last.0 given.0)
refused_at number (NotCovered table) = Change number line_faults.NotCovered
refused_at number (TooWide table id count) = PastLimit (Entries count)
refused_at number (OpsFull last) = PastLimit (Operations last.0)
refused_at number filling.Memory = Memory

-- ---- a store

-- all changes of the transactions are written into a store of valid rules, with no new ones, and the last position is the checkpoint's
pub record IsServed (rules : RuleSet) (transactions : List Transaction) (store : Store) : Type 0 where
  pub history : List Event
  pub stands : StoreStandsFor (usual rules) store history
  pub one : has_deploy history ≡ false
  pub fed : (ledger_of rules history).fed ≡ transactions
  pub position : (ledger_of rules history).position ≡ last_position 0 transactions

-- a file was fed to a store, or its first line that is refused is answered
abbrev pub Feeds : RuleSet → Result (List Transaction) Fault → Result Store Fault → Type 0
Feeds rules meant (Ok store) = (transactions : List Transaction) × (meant ≡ Ok transactions) × IsServed rules transactions store
Feeds rules meant (Err fault) = IsLineFault meant fault

-- ---- lines

-- a line was taken behind others, or it is refused
abbrev pub TakesNext : RuleSet → List Line → ℕ → List ℕ → Filling → Result (Unit {0}) Fault → Type 0
TakesNext rules lines number bytes new (Ok done) =
    (line : Line) × (taken_at rules (copy_of lines) number bytes ≡ Ok (copy_of (lines ++ line ∷ []))) × Fills (usual rules) new (lines ++ line ∷ [])
TakesNext rules lines number bytes new (Err fault) = IsLineFault (taken_at rules (copy_of lines) number bytes) fault

-- so far, the lines before a number were taken
pub record HasFilled (rules : RuleSet) (bytes : List ℕ) (number : ℕ) (rest : Option (Bor (List ℕ))) (filling : Filling) : Type 0 where
  pub lines : List Line
  pub fills : Fills (usual rules) filling lines
  pub meaning : copied_from rules nothing 1 (lines_of bytes) ≡ copied_from rules (copy_of lines) (number + 1) (lines_left rest)
  pub counted : number + bytes_left rest ≤ length bytes + 1
  pub numbered : number + length (lines_left rest) ≡ length (lines_of bytes)

-- all lines were taken, and how many these are; or the first that is refused is answered
abbrev pub TakesAll : RuleSet → List ℕ → Filling → Result ℕ Fault → Type 0
TakesAll rules bytes new (Ok number) =
    (lines : List Line) × (copied_from rules nothing 1 (lines_of bytes) ≡ Ok (copy_of lines)) × Fills (usual rules) new lines
    × (number ≡ length (lines_of bytes)) × (number ≤ length bytes + 1)
TakesAll rules bytes new (Err fault) = IsLineFault (copied_from rules nothing 1 (lines_of bytes)) fault
