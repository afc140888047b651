-- Reading all lines of a change file.
use Rattle.std.specs.Prelude.{◌≡◌, ℕ, ◌+◌, ◌≤◌, List, length, Option, Result, Ok, Err, Vec}
use Rattle.std.specs.Borrow.{Bor}
use Rattle.std.specs.declared.alloc.Global.{Global}
use Rattle.ps_rows.specs.declared.changes.Transaction.{Transaction}
use Rattle.std.specs.List.{All}
use Rattle.ps_store.specs.Limits.{greatest}
use Rattle.ps_files.specs.declared.faults.Fault.{Fault}
use Rattle.ps_files.specs.declared.faults.Fault.TheVariants.{Usage, Rules, Change, PastLimit, TooManyBuckets, Claims, Keys, TooLong, CannotRead, CannotWrite, Script, Memory}
use Rattle.ps_files.specs.ChangeFiles.{all_from, all_transactions_of}
use Rattle.ps_files.specs.ReadingChanges.{lines_left, bytes_left}

-- so far, the lines before a number gave these transactions
pub record HasRead (bytes : List ℕ) (number : ℕ) (rest : Option (Bor (List ℕ))) (done : List Transaction) : Type 0 where
  pub low : All (λ (t : Transaction). t.position.0 ≤ greatest) done
  pub meaning : all_transactions_of bytes ≡ all_from done (number + 1) (lines_left rest)
  pub counted : number + bytes_left rest ≤ length bytes + 1

-- the transactions of a change file's bytes, none of whose positions is past the greatest
pub record FindsTransactions (transactions : Vec Transaction Global) (bytes : List ℕ) : Type 0 where
  pub low : All (λ (t : Transaction). t.position.0 ≤ greatest) transactions.items
  pub read : all_transactions_of bytes ≡ Ok transactions.items

abbrev pub IsTransactionsFault : Fault → List ℕ → Type 0
IsTransactionsFault Usage bytes = ⊥
IsTransactionsFault (Rules which line column why) bytes = ⊥
IsTransactionsFault (Change line why) bytes = all_transactions_of bytes ≡ Err (Change line why)
IsTransactionsFault (PastLimit limit) bytes = all_transactions_of bytes ≡ Err (PastLimit limit)
IsTransactionsFault (TooManyBuckets count) bytes = ⊥
IsTransactionsFault Claims bytes = ⊥
IsTransactionsFault Keys bytes = ⊥
IsTransactionsFault (TooLong seen) bytes = ⊥
IsTransactionsFault (CannotRead name) bytes = ⊥
IsTransactionsFault CannotWrite bytes = ⊥
IsTransactionsFault (Script line why) bytes = ⊥
IsTransactionsFault Memory bytes = ⊥

-- a change file's bytes are read as they are meant; where it is out of memory nothing is said
abbrev pub ReadsAll : List ℕ → Result (Vec Transaction Global) Fault → Type 0
ReadsAll bytes (Ok transactions) = FindsTransactions transactions bytes
ReadsAll bytes (Err Usage) = ⊥
ReadsAll bytes (Err (Rules which line column why)) = ⊥
ReadsAll bytes (Err (Change line why)) = all_transactions_of bytes ≡ Err (Change line why)
ReadsAll bytes (Err (PastLimit limit)) = all_transactions_of bytes ≡ Err (PastLimit limit)
ReadsAll bytes (Err (TooManyBuckets count)) = ⊥
ReadsAll bytes (Err Claims) = ⊥
ReadsAll bytes (Err Keys) = ⊥
ReadsAll bytes (Err (TooLong seen)) = ⊥
ReadsAll bytes (Err (CannotRead name)) = ⊥
ReadsAll bytes (Err CannotWrite) = ⊥
ReadsAll bytes (Err (Script line why)) = ⊥
ReadsAll bytes (Err Memory) = Unit {0}
