-- The rounds of a compactor.
use Rattle.std.specs.Prelude.{◌≡◌, ℕ, true, List, ◌++◌, Result, Ok, Err}
use Rattle.std.specs.List.{AllByRecursion}
use Rattle.ps_kept.specs.declared.values.Kept.{Ghosts}
use Rattle.ps_lock.specs.declared.tables.Seat.{Seat}
use Rattle.ps_store.specs.declared.events.Event.{Event}
use Rattle.ps_store.specs.declared.fixed.Fixed.{Fixed}
use Rattle.ps_store.specs.Histories.{compacts}
use Rattle.ps_store.specs.Ledgers.{ledger_of}
use Rattle.ps_store.specs.Totals.{bucket_names_of}
use Rattle.ps_workers.specs.declared.ends.WorkEnd.{WorkEnd}
use Rattle.ps_workers.specs.declared.shared.SharedStore.{SharedStore}
use Rattle.ps_workers.specs.declared.shared.Terms.{Terms}
use Rattle.ps_workers.specs.Terms.{IsStoodFor}
use Rattle.ps_workers.specs.Work.{HasWorked, IsOfCompactor, IsStoreDrained, CompactsAll}

-- a store stood for the history, and was drained
pub record IsOver (terms : Terms) (history : List Event) : Type 0 where
  pub stood : IsStoodFor terms history
  pub drained : IsStoreDrained (ledger_of terms.fixed.rules history)

-- and these are the names of its buckets
pub record IsOverWith (terms : Terms) (names : List (List ℕ)) (history : List Event) : Type 0 where
  pub over : IsOver terms history
  pub names_are : names ≡ bucket_names_of (ledger_of terms.fixed.rules history)

-- a store stood for the later history, which has a Compact of each of these buckets past the former one
pub record HasCompacted (terms : Terms) (history later : List Event) (names : List (List ℕ)) : Type 0 where
  pub stood : IsStoodFor terms later
  pub came : List Event
  pub whole : history ++ came ≡ later
  pub each : AllByRecursion (λ (name : List ℕ). compacts name came ≡ true) names

module _ {d : Ghosts SharedStore Event Terms} (fixed : Fixed) where
  -- a round is over, and the compactor goes on; or why it ends
  abbrev pub CompactsOn : Type 0 → Seat SharedStore Event Terms d → Seat SharedStore Event Terms d → Result (Unit {0}) WorkEnd → Type 0
  CompactsOn WasClosed before after (Ok done) = HasWorked IsOfCompactor before after
  CompactsOn WasClosed before after (Err end) = CompactsAll fixed WasClosed before after end
