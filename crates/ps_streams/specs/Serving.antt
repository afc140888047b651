-- Histories that sessions read.
use Rattle.std.specs.Prelude.{List}
use Rattle.ps_definitions.specs.RuleSets.{AreRules}
use Rattle.ps_store.specs.declared.events.Event.{Event}
use Rattle.ps_store.specs.declared.fixed.Fixed.{Fixed}
use Rattle.ps_store.specs.Laws.{HaveNumbers}
use Rattle.ps_store.specs.Ledgers.{IsLegal}

-- a legal history under valid rules
pub record IsValid (fixed : Fixed) (history : List Event) : Type 0 where
  pub rules : AreRules fixed.rules
  pub numbers : HaveNumbers fixed.rules.definitions
  pub legal : IsLegal fixed.rules history
