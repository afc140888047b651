-- What is known of the rules of each generation of a shared store.
use Rattle.std.specs.Prelude.{◌≡◌, ◌⊎◌, List, Some, IfSome}
use Rattle.ps_store.specs.declared.events.Event.{Event}
use Rattle.ps_store.specs.Generations.{Coming}
use Rattle.ps_store.specs.Ledgers.{Ledger, ledger_of}
use Rattle.ps_workers.specs.declared.shared.Terms.{Terms}
use Rattle.ps_workers.specs.Terms.{IsStoodFor}

-- the rules in force are the first or the next ones, and a generation that is being built has the next ones
pub record HasRulesOf (terms : Terms) (l : Ledger) : Type 0 where
  pub force : (l.force.rules ≡ terms.fixed.rules) ⊎ (terms.next ≡ Some l.force.rules)
  pub coming : IfSome l.building (λ (c : Coming). terms.next ≡ Some c.lane.rules)

abbrev pub SharedStoresHaveRules : Type 0
SharedStoresHaveRules = (terms : Terms) (history : List Event) → IsStoodFor terms history → HasRulesOf terms (ledger_of terms.fixed.rules history)
