-- Loading the rows of a file that are due to an asker.
use Rattle.std.specs.Prelude.{◌≡◌, ℕ, ◌<◌, ◌≤◌, length, List, Result, Ok, Err, Vec}
use Rattle.std.specs.declared.alloc.Global.{Global}
use Rattle.ps_rows.specs.declared.changes.Transaction.{Transaction}
use Rattle.ps_files.specs.declared.faults.Fault.{Fault}
use Rattle.ps_files.specs.declared.faults.Fault.TheVariants.{Usage, Rules, Change, PastLimit, TooManyBuckets, Claims, Keys, TooLong, CannotRead, CannotWrite, Script, Memory}
use Rattle.ps_definitions.specs.RuleSets.{RuleSet}
use Rattle.ps_queries.specs.declared.askers.Asker.{Asker}
use Rattle.ps_store.specs.Laws.{last_position}
use Rattle.ps_store.specs.Limits.{usual_limits}
use Rattle.ps_due_rows.specs.declared.feedings.Feeding.{Feeding}
use Rattle.ps_due_rows.specs.Dues.{due, own_buckets}
use Rattle.ps_due_rows.specs.FirstCopies.{fed_by}
use Rattle.ps_showing.specs.Printing.{rows_text}

-- the printed rows of a file that are due to an asker
pub record FindsRows (feeding : Feeding) (rules : RuleSet) (asker : Asker) (text : Vec ℕ Global) (bytes : List ℕ) : Type 0 where
  pub transactions : List Transaction
  pub read : fed_by feeding rules bytes ≡ Ok transactions
  pub within : length (own_buckets rules asker transactions) ≤ usual_limits.buckets
  pub is : text.items ≡ rows_text (due rules asker transactions (last_position 0 transactions))

-- all lines are taken, and the asker has so many buckets, more than an asker may have
pub record HasMore (feeding : Feeding) (rules : RuleSet) (asker : Asker) (count : ℕ) (bytes : List ℕ) : Type 0 where
  pub transactions : List Transaction
  pub read : fed_by feeding rules bytes ≡ Ok transactions
  pub count_is : count ≡ length (own_buckets rules asker transactions)
  pub more : usual_limits.buckets < count

abbrev pub RefusesRows : Feeding → RuleSet → Asker → Fault → List ℕ → Type 0
RefusesRows feeding rules asker (Change line why) bytes = fed_by feeding rules bytes ≡ Err (Change line why)
RefusesRows feeding rules asker (PastLimit limit) bytes = fed_by feeding rules bytes ≡ Err (PastLimit limit)
RefusesRows feeding rules asker (TooManyBuckets count) bytes = HasMore feeding rules asker count bytes
RefusesRows feeding rules asker Usage bytes = ⊥
RefusesRows feeding rules asker (Rules which line column why) bytes = ⊥
RefusesRows feeding rules asker Claims bytes = ⊥
RefusesRows feeding rules asker Keys bytes = ⊥
RefusesRows feeding rules asker (TooLong seen) bytes = ⊥
RefusesRows feeding rules asker (CannotRead name) bytes = ⊥
RefusesRows feeding rules asker CannotWrite bytes = ⊥
RefusesRows feeding rules asker (Script place cause) bytes = ⊥
RefusesRows feeding rules asker Memory bytes = ⊥

-- the same, of bytes that were read
abbrev pub Prepares : Feeding → RuleSet → Asker → List ℕ → Result (Vec ℕ Global) Fault → Type 0
Prepares feeding rules asker bytes (Ok text) = FindsRows feeding rules asker text bytes
Prepares feeding rules asker bytes (Err Memory) = Unit {0}
Prepares feeding rules asker bytes (Err (Change line why)) = RefusesRows feeding rules asker (Change line why) bytes
Prepares feeding rules asker bytes (Err (PastLimit limit)) = RefusesRows feeding rules asker (PastLimit limit) bytes
Prepares feeding rules asker bytes (Err (TooManyBuckets count)) = RefusesRows feeding rules asker (TooManyBuckets count) bytes
Prepares feeding rules asker bytes (Err Usage) = ⊥
Prepares feeding rules asker bytes (Err (Rules which line column why)) = ⊥
Prepares feeding rules asker bytes (Err Claims) = ⊥
Prepares feeding rules asker bytes (Err Keys) = ⊥
Prepares feeding rules asker bytes (Err (TooLong seen)) = ⊥
Prepares feeding rules asker bytes (Err (CannotRead name)) = ⊥
Prepares feeding rules asker bytes (Err CannotWrite) = ⊥
Prepares feeding rules asker bytes (Err (Script place cause)) = ⊥
