-- What was answered for a connection stays true as the history grows.
use Rattle.std.specs.Prelude.{ℕ, Bool, List, ◌++◌, Option}
use Rattle.ps_io.specs.Sources.{Input}
use Rattle.ps_token.specs.declared.key_lists.Key.{Key}
use Rattle.ps_store.specs.declared.events.Event.{Event}
use Rattle.ps_store.specs.declared.fixed.Fixed.{Fixed}
use Rattle.ps_streams.specs.Serving.{IsValid}
use Rattle.ps_serve.specs.declared.outcomes.Outcome.{Outcome}
use Rattle.ps_serve.specs.SharedAnswers.{AnswersAt}

-- the causes and what was told of one history are those of each history that goes on from it
abbrev pub AnswersStay : (ℕ → Type 0) → Type 0
AnswersStay may_give = (fixed : Fixed) (low : ℕ) (history more : List Event) (keys : List Key) (until_drained : Bool) (own own' : List (Event × ℕ)) (from from' : Option Input)
    (read read' : ℕ) (old new : Option (List ℕ)) (before now : ℕ) (outcome : Outcome) → IsValid fixed (history ++ more)
    → AnswersAt fixed low history may_give keys until_drained own own' from from' read read' old new before now outcome
    → AnswersAt fixed low (history ++ more) may_give keys until_drained own own' from from' read read' old new before now outcome
