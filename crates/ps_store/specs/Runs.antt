-- Which changes can be written, and why one cannot.
use Rattle.std.specs.Prelude.{ℕ, ◌+◌, if◌then◌else◌, List, [], ◌∷◌, ◌++◌, length, Option, Some, None, nat_lt}
use Rattle.ps_store.specs.declared.fixed.Limits.{Limits}
use Rattle.ps_store.specs.declared.plans.Refusal.{Refusal}
use Rattle.ps_store.specs.declared.plans.Refusal.TheVariants.{TooWide, OpsFull}
use Rattle.ps_store.specs.Originals.{Entered, Timed}
use Rattle.ps_store.specs.Ledgers.{Ledger, entries_after, next_ops, write_next}

-- why a change cannot be written next: its row has more entries than one may have; else, it needs more ids than are left
abbrev pub refusal_of : Limits → Ledger → Timed → Option Refusal
refusal_of limits l t =
    if nat_lt limits.entries (length (entries_after l t)) then Some (TooWide (limits.entries + 1))
    else if nat_lt limits.ops (l.last + length (next_ops l t)) then Some OpsFull else None

-- the longest run of changes that can be written, and why the one behind it cannot
pub record Run : Type 0 where
  pub ledger : Ledger
  pub count : ℕ
  pub refusal : Option Refusal

abbrev pub stopped : Ledger → ℕ → Option Refusal → Run → Run
stopped l count None run = run
stopped l count (Some refusal) run = record { ledger = l; count = count; refusal = Some refusal }

abbrev pub run_from : Limits → Ledger → ℕ → List Timed → Run
run_from limits l count [] = record { ledger = l; count = count; refusal = None }
run_from limits l count (t ∷ ts) = stopped l count (refusal_of limits l t) (run_from limits (write_next l t) (count + 1) ts)

-- the operations of changes that are written next, and the last id of a Write after each
abbrev pub ops_from : Ledger → List Timed → List Entered
ops_from l [] = []
ops_from l (t ∷ ts) = next_ops l t ++ ops_from (write_next l t) ts

abbrev pub lasts_from : Ledger → List Timed → List ℕ
lasts_from l [] = []
lasts_from l (t ∷ ts) = (write_next l t).wrote ∷ lasts_from (write_next l t) ts
