-- The run of changes that a batch writes is the longest that can be written.
use Rattle.std.specs.Prelude.{◌≡◌, ℕ, ◌≤◌, Bool, true, ◌&&◌, List, [], ◌∷◌, length, take, is_none}
use Rattle.ps_store.specs.declared.fixed.Limits.{Limits}
use Rattle.ps_store.specs.Originals.{Timed}
use Rattle.ps_store.specs.Ledgers.{Ledger, write_next}
use Rattle.ps_store.specs.Runs.{refusal_of, run_from}

-- none of changes is refused in its turn, each written before the next one
abbrev pub can_be_written : Limits → Ledger → List Timed → Bool
can_be_written limits l [] = true
can_be_written limits l (t ∷ ts) = is_none (refusal_of limits l t) && can_be_written limits (write_next l t) ts

-- so many first changes can be written, and no more
pub record IsLongest (limits : Limits) (l : Ledger) (ts : List Timed) (count : ℕ) : Type 0 where
  pub within : count ≤ length ts
  pub can : can_be_written limits l (take count ts) ≡ true
  pub no_more : (n : ℕ) → n ≤ length ts → can_be_written limits l (take n ts) ≡ true → n ≤ count

-- so it is of each run
abbrev pub RunsAreLongest : Type 0
RunsAreLongest = (limits : Limits) (l : Ledger) (ts : List Timed) → IsLongest limits l ts (run_from limits l 0 ts).count
