-- What each call of a disk does to what the disk tells.
use Rattle.std.specs.Prelude.{◌≡◌, ◌⊎◌, ℕ, ◌+◌, ◌<◌, ◌≤◌, List, [], ◌∷◌, ◌++◌, length, take, drop, Option, Some, None, IfSome, Result, Ok, Err, Vec}
use Rattle.std.specs.declared.alloc.Global.{Global}
use Rattle.ps_io.specs.Counts.{Rose}
use Rattle.ps_journal.specs.declared.moments.Moment.{Moment}
use Rattle.ps_journal.specs.declared.moments.Told.{Told}
use Rattle.ps_journal.specs.declared.faults.DiskFault.{DiskFault}
use Rattle.ps_journal.specs.declared.faults.DiskFault.TheVariants.{Failed, TooLong, Memory}

-- the content with these bytes at that place
abbrev pub overwritten : ℕ → List ℕ → List ℕ → List ℕ
overwritten at bytes content = take at content ++ (bytes ++ drop (at + length bytes) content)

-- the moment with one more span written
abbrev pub touched : ℕ → ℕ → Moment → Moment
touched at count moment = record { sure = moment.sure; spans = moment.spans ++ record { at = at; count = count } ∷ [] }

-- the moment at which this is on the disk, and nothing was written since
abbrev pub settled : List ℕ → Moment
settled content = record { sure = content; spans = [] }

-- a write
abbrev pub wrote : ℕ → List ℕ → Told → Told
wrote at bytes told = record { content = overwritten at bytes told.content; now = touched at (length bytes) told.now; past = told.past ++ told.now ∷ [] }

-- a write that failed and counts as one, after which a read gives this content
abbrev pub half_wrote : ℕ → ℕ → List ℕ → Told → Told
half_wrote at count content told = record { content = content; now = touched at count told.now; past = told.past ++ told.now ∷ [] }

-- a sync
abbrev pub synced : Told → Told
synced told = record { content = told.content; now = settled told.content; past = told.past ++ told.now ∷ [] }

-- a write that failed changed nothing, or it counts as one
abbrev pub FailsToWrite : ℕ → ℕ → Option Told → Option Told → Type 0
FailsToWrite at count None new = new ≡ None
FailsToWrite at count (Some known) new = (new ≡ Some known) ⊎ ((content : List ℕ) × (new ≡ Some (half_wrote at count content known)))

-- what reading a disk answers: its bytes, which are no more than the limit; a fault that its count tells; how many there are, which is more
-- than the limit
abbrev pub ReadsDisk : Option Told → ℕ → ℕ → ℕ → Result (Vec ℕ Global) DiskFault → Type 0
ReadsDisk told limit before now (Ok bytes) = IfSome told (λ known. bytes.items ≡ known.content) × (length bytes.items ≤ limit)
ReadsDisk told limit before now (Err Failed) = Rose before now
ReadsDisk told limit before now (Err (TooLong seen)) = (limit < seen) × IfSome told (λ known. seen ≡ length known.content)
ReadsDisk told limit before now (Err Memory) = Unit {0}

-- what was read is no more than the limit, and what was seen of too long a content is more
abbrev pub IsWithin : ℕ → Result (Vec ℕ Global) DiskFault → Type 0
IsWithin limit (Ok bytes) = length bytes.items ≤ limit
IsWithin limit (Err Failed) = Unit {0}
IsWithin limit (Err (TooLong seen)) = limit < seen
IsWithin limit (Err Memory) = Unit {0}
