-- What the worker of a connection is given, and what it owes.
use Rattle.std.specs.Prelude.{◌≡◌, ℕ, List, length}
use mathlib.Core.List.{IsPrefix}
use Rattle.ps_io.specs.declared.sources.Source as Source
use Rattle.ps_io.specs.declared.outputs.Sink as Sink
use Rattle.ps_store.specs.declared.events.Event.{Event}
use Rattle.ps_store.specs.declared.fixed.Fixed.{Fixed}
use Rattle.ps_streams.specs.Serving.{IsValid}
use Rattle.ps_serve.specs.declared.ends.End.{End}
use Rattle.ps_serve.specs.declared.outcomes.Outcome.{Outcome}
use Rattle.ps_serve.specs.declared.sites.Site.{Site}
use Rattle.ps_serve.specs.SharedAnswers.{AnswersAt}

module _ {S K : Type 0} (g : Source.Ghosts S) (h : Sink.Ghosts K) (fixed : Fixed) (site : Site) (may_give : ℕ → Type 0) where
  -- From these ends, and a seat that had seen `before` and had own entries, a worker came to those ends. Its seat has seen `after`, and the answer stands in each
  -- legal history that goes on from there
  pub record HasAnswered (before after : List Event) (own own' : List (Event × ℕ)) (from : S) (to : K) (from' : S) (to' : K) (end : End) : Type 0 where
    pub saw : IsPrefix before after
    pub source_number : g.number from' ≡ g.number from
    pub sink_number : h.number to' ≡ h.number to
    pub outcome : Outcome
    pub end_is : outcome.end ≡ end
    pub answers : (history : List Event) → IsPrefix after history → IsValid fixed history
        → AnswersAt fixed (length before) history may_give site.keys site.until_drained own own' (g.input from) (g.input from') (g.faults from) (g.faults from')
        (h.taken to) (h.taken to') (h.faults to) (h.faults to') outcome
