-- The store that threads share, and what its lock knows of it between two turns.
use Rattle.std.specs.Prelude.{◌≡◌, List, Option, Some, None}
use Rattle.std.specs.List.{AllByRecursion}
use Rattle.ps_definitions.specs.RuleSets.{RuleSet}
use Rattle.ps_store.specs.declared.events.Event.{Event}
use Rattle.ps_store.specs.declared.events.Event.TheVariants.{Feed, Close, Write, Commit, Compact, WriteCheckpoint, Deploy, Build, Switch, Abandon}
use Rattle.ps_store.specs.declared.stores.Store.{Store}
use Rattle.ps_store.specs.Keeping.{AreNarrow}
use Rattle.ps_store.specs.Ledgers.{ledger_of}
use Rattle.ps_store.specs.Stores.{StoreStandsFor}
use Rattle.ps_workers.specs.declared.shared.SharedStore.{SharedStore}
use Rattle.ps_workers.specs.declared.shared.Terms.{Terms}

-- the store that is shared
abbrev pub store_of : SharedStore → Store
store_of shared = shared.store

-- its first rules and limits, and the rules that may come
abbrev pub terms_by : SharedStore → Terms
terms_by shared = record { fixed = shared.store.fixed; next = shared.next.value }

-- a Deploy is of the next rules, and where there are none it does not come
abbrev pub DeploysOnly : Option RuleSet → Event → Type 0
DeploysOnly next (Feed t) = Unit {0}
DeploysOnly next Close = Unit {0}
DeploysOnly next (Write n) = Unit {0}
DeploysOnly next Commit = Unit {0}
DeploysOnly next (Compact bucket) = Unit {0}
DeploysOnly next (WriteCheckpoint user client) = Unit {0}
DeploysOnly next (Deploy rules) = next ≡ Some rules
DeploysOnly next (Build n) = Unit {0}
DeploysOnly next Switch = Unit {0}
DeploysOnly next Abandon = Unit {0}

-- the store stands for the history, under its first rules and its limits; no other new rules came than the next ones; and where there are
-- no next rules, each written change was narrow
pub record KeepsShared (terms : Terms) (shared : SharedStore) (history : List Event) : Type 0 where
  pub stands : StoreStandsFor terms.fixed shared.store history
  pub deploys : AllByRecursion (DeploysOnly terms.next) history
  pub narrow : terms.next ≡ None → AreNarrow terms.fixed (ledger_of terms.fixed.rules history)

-- a shared store stood for the history, so that it is legal
abbrev pub IsStoodFor : Terms → List Event → Type 0
IsStoodFor terms history = (shared : SharedStore) × KeepsShared terms shared history
