-- What one turn that compacts a bucket adds to the history.
use Rattle.std.specs.Prelude.{◌≡◌, ℕ, List, [], ◌∷◌, ◌++◌, Result, Ok, Err}
use Rattle.ps_compact.specs.declared.reports.Report.{Report}
use Rattle.ps_compact.specs.Compaction.{report_of}
use Rattle.ps_kept.specs.declared.values.Kept.{Ghosts}
use Rattle.ps_lock.specs.declared.tables.Seat.{Seat}
use Rattle.ps_store.specs.declared.events.Event.{Event}
use Rattle.ps_store.specs.declared.events.Event.TheVariants.{Compact}
use Rattle.ps_store.specs.declared.faults.CompactFault.{CompactFault}
use Rattle.ps_store.specs.declared.faults.CompactFault.TheVariants.{NoBucket, Memory}
use Rattle.ps_store.specs.Ledgers.{ledger_of, force_ops}
use Rattle.ps_workers.specs.declared.shared.SharedStore.{SharedStore}
use Rattle.ps_workers.specs.declared.shared.Terms.{Terms}
use Rattle.ps_workers.specs.Gains.{LooksAt, AddsTo}
use Rattle.ps_workers.specs.Terms.{IsStoodFor}

module _ {d : Ghosts SharedStore Event Terms} (terms : Terms) (history : List Event) where
  -- the log of a bucket was compacted at the checkpoint's op, or why it was not: at this history it is no bucket of the generation in force
  -- that has an operation
  abbrev pub CompactsIn : List ℕ → Seat SharedStore Event Terms d → Seat SharedStore Event Terms d → Result Report CompactFault → Type 0
  CompactsIn bucket before after (Ok report) =
      AddsTo history (Compact bucket) before after × IsStoodFor terms (history ++ Compact bucket ∷ [])
      × (report ≡ report_of (ledger_of terms.fixed.rules history).op ((ledger_of terms.fixed.rules history).log bucket))
  CompactsIn bucket before after (Err NoBucket) =
      LooksAt history before after × IsStoodFor terms history × (force_ops (ledger_of terms.fixed.rules history) bucket ≡ [])
  CompactsIn bucket before after (Err Memory) = LooksAt history before after
