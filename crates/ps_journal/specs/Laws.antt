-- Laws of what a content reads as, and of what a crash leaves.
use Rattle.std.specs.Prelude.{◌≡◌, ℕ, List, Some, Result, Ok, Err}
use Rattle.ps_journal.specs.declared.records.Record.{Record}
use Rattle.ps_journal.specs.declared.moments.Moment.{Moment}
use Rattle.ps_journal.specs.declared.moments.Told.{Told}
use Rattle.ps_journal.specs.declared.faults.OpenFault.{OpenFault}
use Rattle.ps_journal.specs.declared.faults.OpenFault.TheVariants.{NotJournal, Damaged, TooLong, Failed, Memory}
use Rattle.ps_journal.specs.Moments.{MayLeave}
use Rattle.ps_journal.specs.declared.places.Place.{Place}
use Rattle.ps_journal.specs.Journals.{KeepsAt, Leaves}
use Rattle.ps_journal.specs.Opening.{Opens, LeavesAsBefore}

-- the answer comes from the content, and is no fault of the disk or of memory
abbrev pub IsOfContent : Result (List Record) OpenFault → Type 0
IsOfContent (Ok records) = Unit {0}
IsOfContent (Err NotJournal) = Unit {0}
IsOfContent (Err (Damaged at)) = Unit {0}
IsOfContent (Err (TooLong seen)) = Unit {0}
IsOfContent (Err Failed) = ⊥
IsOfContent (Err Memory) = ⊥

-- A content is opened in one way: its records, no journal, too long, and damaged at a place exclude each other, and the records and the place are one.
abbrev pub OpensOneWay : Type 0
OpensOneWay = (content : List ℕ) (one other : Result (List Record) OpenFault) → IsOfContent one → IsOfContent other → Opens content one → Opens content other → one ≡ other

-- what a crash may leave before a journal is opened again, it may leave while it is
abbrev pub ReopensSafely : Type 0
ReopensSafely =
    (old : Told) (records others : List Record) (moment : Moment) → MayLeave old.now old.content → Leaves records others old.now → LeavesAsBefore old moment → Leaves records others moment

-- what is kept, a crash leaves
abbrev pub KeepingIsLeaving : Type 0
KeepingIsLeaving = (known : Told) (place : Place) (records others : List Record) → KeepsAt (Some known) place records others → Leaves records others known.now
