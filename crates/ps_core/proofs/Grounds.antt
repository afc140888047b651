-- The laws of the crates below, over one rule set.
use Rattle.ps_queries.specs.declared.askers.Asker.{Asker}
use Rattle.ps_definitions.specs.RuleSets.{AreRules}
use Rattle.std.proofs.Common.{List}
use Rattle.ps_store.specs.declared.events.Event.{Event}
use Rattle.ps_store.specs.declared.fixed.Fixed.{Fixed}
use Rattle.ps_store.specs.Laws.{HaveNumbers}
use Rattle.ps_store.specs.Ledgers.{IsLegal}
use Rattle.ps_store.specs.CourseLaws.{IsLawful, CoursesAreLawful, PlacesStay}
use Rattle.ps_streams.specs.Led.{EmptyAreHonest, LeadsFirst, LeadsOn, LeadsLater, LeadsLocally, LeadsTaken, LedAreHonest}
use Rattle.ps_core.specs.Plays.{course}

pub record Laws : Type 0 where
  pub lawful : CoursesAreLawful
  pub stay : PlacesStay
  pub empty : EmptyAreHonest
  pub first : LeadsFirst
  pub turn : LeadsOn
  pub later : LeadsLater
  pub locally : LeadsLocally
  pub taken : LeadsTaken
  pub honest : LedAreHonest

pub record Under (fixed : Fixed) : Type 0 where
  pub laws : Laws
  pub rules : AreRules fixed.rules
  pub numbers : HaveNumbers fixed.rules.definitions

pub lawful_in : (fixed : Fixed) → Under fixed → (history : List Event) (asker : Asker) → IsLegal fixed.rules history → IsLawful (course fixed history asker)
lawful_in fixed under history asker legal = under.laws.lawful fixed.rules history asker under.rules under.numbers legal
