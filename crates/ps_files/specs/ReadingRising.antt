-- Reading all lines of a change file, whose positions rise.
use Rattle.std.specs.Prelude.{◌≡◌, ℕ, ◌+◌, ◌≤◌, List, length, Option, Result, Ok, Err, Vec}
use Rattle.std.specs.Borrow.{Bor}
use Rattle.std.specs.declared.alloc.Global.{Global}
use Rattle.ps_rows.specs.declared.changes.Transaction.{Transaction}
use Rattle.ps_store.specs.Laws.{Rises, last_position}
use Rattle.ps_files.specs.declared.faults.Fault.{Fault}
use Rattle.ps_files.specs.declared.faults.Fault.TheVariants.{Usage, Rules, Change, PastLimit, TooManyBuckets, Claims, Keys, TooLong, CannotRead, CannotWrite, Script, Memory}
use Rattle.ps_files.specs.ChangeFiles.{rising_from, rising_transactions_of}
use Rattle.ps_files.specs.ReadingChanges.{lines_left, bytes_left}

-- so far, the lines before a number gave these transactions, the last of which has this position
pub record HasRisen (bytes : List ℕ) (number : ℕ) (rest : Option (Bor (List ℕ))) (last : ℕ) (done : List Transaction) : Type 0 where
  pub rises : Rises 0 done
  pub last_is : last ≡ last_position 0 done
  pub meaning : rising_transactions_of bytes ≡ rising_from done (number + 1) (lines_left rest)
  pub counted : number + bytes_left rest ≤ length bytes + 1

-- the transactions of a change file's bytes, whose positions rise
pub record FindsRising (transactions : Vec Transaction Global) (bytes : List ℕ) : Type 0 where
  pub rises : Rises 0 transactions.items
  pub read : rising_transactions_of bytes ≡ Ok transactions.items

abbrev pub IsRisingFault : Fault → List ℕ → Type 0
IsRisingFault Usage bytes = ⊥
IsRisingFault (Rules which line column why) bytes = ⊥
IsRisingFault (Change line why) bytes = rising_transactions_of bytes ≡ Err (Change line why)
IsRisingFault (PastLimit limit) bytes = rising_transactions_of bytes ≡ Err (PastLimit limit)
IsRisingFault (TooManyBuckets count) bytes = ⊥
IsRisingFault Claims bytes = ⊥
IsRisingFault Keys bytes = ⊥
IsRisingFault (TooLong seen) bytes = ⊥
IsRisingFault (CannotRead name) bytes = ⊥
IsRisingFault CannotWrite bytes = ⊥
IsRisingFault (Script line why) bytes = ⊥
IsRisingFault Memory bytes = ⊥

-- a change file's bytes are read as they are meant; where it is out of memory nothing is said
abbrev pub ReadsAllRising : List ℕ → Result (Vec Transaction Global) Fault → Type 0
ReadsAllRising bytes (Ok transactions) = FindsRising transactions bytes
ReadsAllRising bytes (Err Usage) = ⊥
ReadsAllRising bytes (Err (Rules which line column why)) = ⊥
ReadsAllRising bytes (Err (Change line why)) = rising_transactions_of bytes ≡ Err (Change line why)
ReadsAllRising bytes (Err (PastLimit limit)) = rising_transactions_of bytes ≡ Err (PastLimit limit)
ReadsAllRising bytes (Err (TooManyBuckets count)) = ⊥
ReadsAllRising bytes (Err Claims) = ⊥
ReadsAllRising bytes (Err Keys) = ⊥
ReadsAllRising bytes (Err (TooLong seen)) = ⊥
ReadsAllRising bytes (Err (CannotRead name)) = ⊥
ReadsAllRising bytes (Err CannotWrite) = ⊥
ReadsAllRising bytes (Err (Script line why)) = ⊥
ReadsAllRising bytes (Err Memory) = Unit {0}
