-- A stream that is wanted drained ends so, or out of memory, where nothing else can end it.
use Rattle.std.proofs.Common.{◌≡◌, ℕ, ◌≤◌, ◌<◌, ◌⊎◌, inl, inr, Bool, true, List, Option, Ok, Err, refl, arith, length}
use Rattle.std.specs.Prelude.{Result}
use Rattle.ps_io.specs.Counts.{Rose}
use Rattle.ps_lines.specs.declared.bodies.Known.{Known}
use Rattle.ps_queries.specs.declared.askers.Asker.{Asker}
use Rattle.ps_store.specs.declared.events.Event.{Event}
use Rattle.ps_store.specs.declared.fixed.Fixed.{Fixed}
use Rattle.ps_streams.proofs.Runs.{climbs_to}
use Rattle.ps_serve.specs.declared.asked.Asked.{Asked}
use Rattle.ps_serve.specs.declared.asked.Asked.TheVariants as asked
use Rattle.ps_serve.specs.declared.ends.End.{End}
use Rattle.ps_serve.specs.declared.ends.End.TheVariants.{Answered, Refused, Drained, Expired, PeerGone, CutRequest, TooMany, Memory}
use Rattle.ps_serve.specs.declared.outcomes.Outcome.{Outcome}
use Rattle.ps_serve.specs.declared.outcomes.Served.{Served}
use Rattle.ps_serve.specs.declared.refusals.Refusal.{Refusal}
use Rattle.ps_serve.specs.Answers.{IsWritten}
use Rattle.ps_serve.specs.SharedAnswers.{AreFewThroughout, DoesSoAt, DrainsSo, StreamsAt}
use Rattle.ps_serve.specs.SharedStreams.{AreTooManyAt, EndsSo}

-- out of memory is told, or its write failed
told : (text : List ℕ) (old new : Option (List ℕ)) (before now status : ℕ) (end : End) → IsWritten Memory 503 text old new before now status end → ¬ Rose before now
    → (end ≡ Drained) ⊎ (end ≡ Memory)
told text old new before now status Answered it quiet = inr it.end_is
told text old new before now status Refused it quiet = inr it.end_is
told text old new before now status Drained it quiet = inl refl
told text old new before now status (Expired moment) it quiet = inr it.end_is
told text old new before now status PeerGone (inl it) quiet = absurd (quiet it.rose)
told text old new before now status PeerGone (inr it) quiet = absurd (quiet it.rose)
told text old new before now status CutRequest it quiet = inr it.end_is
told text old new before now status (TooMany count) it quiet = inr it.end_is
told text old new before now status Memory it quiet = inr refl

module _ (may_give : ℕ → Type 0) (fixed : Fixed) (low : ℕ) (history : List Event) (asker : Asker) (positions : List Known) (exp : ℕ)
    (in_time : (moment : ℕ) → may_give moment → moment < exp) (few : AreFewThroughout fixed low history asker) where
  never_many : (from count : ℕ) → low ≤ from → AreTooManyAt may_give exp fixed asker positions low history from count → ⊥
  never_many from count later it =
      let here = few it.place (omega (arith, later, it.later)) it.within in
      omega (arith, here, it.many.above, it.many.count_is)

  ends_drained : (until_drained : Bool) (front : List ℕ) (old new : Option (List ℕ)) (served : List Served) (before now : ℕ) (end : End) → ¬ Rose before now
      → EndsSo may_give exp fixed asker positions low history until_drained front old new served before now end → (end ≡ Drained) ⊎ (end ≡ Memory)
  ends_drained until_drained front old new served before now Answered quiet it = absurd it
  ends_drained until_drained front old new served before now Refused quiet it = absurd it
  ends_drained until_drained front old new served before now Drained quiet it = inl refl
  ends_drained until_drained front old new served before now (Expired moment) quiet it =
      let early = in_time moment it.1 in absurd (omega (arith, early, it.2))
  ends_drained until_drained front old new served before now PeerGone quiet it = absurd (quiet it.1)
  ends_drained until_drained front old new served before now CutRequest quiet it = absurd it
  ends_drained until_drained front old new served before now (TooMany count) quiet it =
      let climbed = climbs_to it.streamed.start it.streamed.turns it.streamed.place it.streamed.run.climbs in
      absurd (never_many it.streamed.place count (omega (arith, it.streamed.later, climbed)) it.many)
  ends_drained until_drained front old new served before now Memory quiet it = inr refl

  stream_drains : (until_drained : Bool) (old new : Option (List ℕ)) (before now : ℕ) (outcome : Outcome) → ¬ Rose before now
      → StreamsAt fixed low history may_give until_drained asker positions exp old new before now outcome → (outcome.end ≡ Drained) ⊎ (outcome.end ≡ Memory)
  stream_drains until_drained old new before now outcome quiet (inl it) = absurd (never_many low it.cause_is.0 (omega arith) it.cause_is.1)
  stream_drains until_drained old new before now outcome quiet (inr (inl it)) = told _ old new before now outcome.status outcome.end it.refused quiet
  stream_drains until_drained old new before now outcome quiet (inr (inr it)) = ends_drained until_drained _ old new outcome.served before now outcome.end quiet it.ends

pub drains : (may_give : ℕ → Type 0) (fixed : Fixed) (low : ℕ) (history : List Event) (until_drained : Bool) (own own' : List (Event × ℕ)) (old new : Option (List ℕ)) (before now : ℕ) (outcome : Outcome)
    (it : Result Asked Refusal) → DoesSoAt fixed low history may_give until_drained it own own' old new before now outcome
    → DrainsSo fixed low history may_give until_drained before now outcome.end it
drains may_give fixed low history until_drained own own' old new before now outcome (Ok (asked.Stream asker positions exp)) does =
    λ wanted in_time few quiet. stream_drains may_give fixed low history asker positions exp in_time few until_drained old new before now outcome quiet does.1
drains may_give fixed low history until_drained own own' old new before now outcome (Ok (asked.Number user client)) does = tt
drains may_give fixed low history until_drained own own' old new before now outcome (Ok (asked.Upload changes)) does = tt
drains may_give fixed low history until_drained own own' old new before now outcome (Err refusal) does = tt
