-- What one turn for new rules adds to the history.
use Rattle.std.specs.Prelude.{◌≡◌, ℕ, ◌+◌, ◌≤◌, ◌<◌, List, [], ◌∷◌, ◌++◌, length, None, Some, IsSome, Result, Ok, Err}
use Rattle.ps_definitions.specs.RuleSets.{RuleSet}
use Rattle.ps_kept.specs.declared.values.Kept.{Ghosts}
use Rattle.ps_lock.specs.declared.tables.Seat.{Seat}
use Rattle.ps_store.specs.declared.deploying.BuildFault.{BuildFault}
use Rattle.ps_store.specs.declared.deploying.Built.{Built}
use Rattle.ps_store.specs.declared.deploying.DeployFault.{DeployFault}
use Rattle.ps_store.specs.declared.deploying.DeployFault.TheVariants as deploying
use Rattle.ps_store.specs.declared.deploying.SwitchFault.{SwitchFault}
use Rattle.ps_store.specs.declared.deploying.SwitchFault.TheVariants as switching
use Rattle.ps_store.specs.declared.events.Event.{Event}
use Rattle.ps_store.specs.declared.events.Event.TheVariants.{Deploy, Build, Switch}
use Rattle.ps_store.specs.declared.fixed.Limits.{Limits}
use Rattle.ps_store.specs.declared.stores.Checkpoint.{Checkpoint}
use Rattle.ps_store.specs.Deploys.{IsUnbuilt, run_in}
use Rattle.ps_store.specs.Generations.{queue_in}
use Rattle.ps_store.specs.Ledgers.{Ledger, ledger_of}
use Rattle.ps_store.specs.Readings.{building_of}
use Rattle.ps_workers.specs.declared.shared.SharedStore.{SharedStore}
use Rattle.ps_workers.specs.declared.shared.Terms.{Terms}
use Rattle.ps_workers.specs.Gains.{LooksAt, AddsTo}
use Rattle.ps_workers.specs.Terms.{IsStoodFor}

-- why no generation comes into force
abbrev pub IsUnswitched : Limits → Ledger → SwitchFault → Type 0
IsUnswitched limits l switching.NothingBuilding = l.building ≡ None
IsUnswitched limits l (switching.NotBuilt left) = (0 < left) × (left ≡ length (queue_in l.building))
IsUnswitched limits l (switching.HalfWritten changes) = IsSome l.building × (queue_in l.building ≡ []) × (0 < changes) × (changes ≡ l.reach.over)
IsUnswitched limits l (switching.OpsFull last) =
    IsSome l.building × (queue_in l.building ≡ []) × (l.reach.over ≡ 0) × (limits.ops ≤ l.last) × (last.0 ≡ l.last)

module _ {d : Ghosts SharedStore Event Terms} (terms : Terms) (history : List Event) where
  -- a generation began by the rules, or why none did: at this history one is being built, or the last number that was ever begun is the limit
  abbrev pub DeploysIn : RuleSet → Seat SharedStore Event Terms d → Seat SharedStore Event Terms d → Result ℕ DeployFault → Type 0
  DeploysIn rules before after (Ok number) =
      AddsTo history (Deploy rules) before after × ((ledger_of terms.fixed.rules history).building ≡ None)
      × ((ledger_of terms.fixed.rules history).begun < terms.fixed.limits.generations) × (number ≡ (ledger_of terms.fixed.rules history).begun + 1)
  DeploysIn rules before after (Err (deploying.Building generation)) =
      LooksAt history before after × IsStoodFor terms history × (building_of (ledger_of terms.fixed.rules history) ≡ Some generation)
  DeploysIn rules before after (Err (deploying.GenerationFull last)) =
      LooksAt history before after × IsStoodFor terms history × ((ledger_of terms.fixed.rules history).building ≡ None)
      × (terms.fixed.limits.generations ≤ (ledger_of terms.fixed.rules history).begun) × (last ≡ (ledger_of terms.fixed.rules history).begun)
  DeploysIn rules before after (Err deploying.Memory) = LooksAt history before after

  -- the longest run of the queue's next changes that can be taken was taken, at most so many, or why none was
  abbrev pub BuildsIn : ℕ → Seat SharedStore Event Terms d → Seat SharedStore Event Terms d → Result Built BuildFault → Type 0
  BuildsIn limit before after (Ok built) =
      AddsTo history (Build built.changes) before after × (1 ≤ built.changes)
      × (built.changes ≡ run_in terms.fixed.limits (ledger_of terms.fixed.rules history) (ledger_of terms.fixed.rules history).building limit)
      × (built.last_op.0 ≡ (ledger_of terms.fixed.rules (history ++ Build built.changes ∷ [])).last)
      × ((ledger_of terms.fixed.rules history).last + built.ops ≡ built.last_op.0)
      × (built.left ≡ length (queue_in (ledger_of terms.fixed.rules (history ++ Build built.changes ∷ [])).building))
  BuildsIn limit before after (Err fault) = LooksAt history before after × IsUnbuilt terms.fixed.limits (ledger_of terms.fixed.rules history) fault

  -- the generation that was being built came into force, or why it did not
  abbrev pub SwitchesIn : Seat SharedStore Event Terms d → Seat SharedStore Event Terms d → Result Checkpoint SwitchFault → Type 0
  SwitchesIn before after (Ok checkpoint) =
      AddsTo history Switch before after × (checkpoint.position.0 ≡ (ledger_of terms.fixed.rules history).reach.position)
      × (checkpoint.op.0 ≡ (ledger_of terms.fixed.rules history).last + 1) × (checkpoint.op.0 ≤ terms.fixed.limits.ops)
  SwitchesIn before after (Err fault) = LooksAt history before after × IsUnswitched terms.fixed.limits (ledger_of terms.fixed.rules history) fault
