-- What is written of a stream over a history that others add to, and how it ends.
use Rattle.std.specs.Prelude.{◌≡◌, ◌⊎◌, ℕ, ◌≤◌, Bool, true, List, [], ◌∷◌, ◌++◌, length, Option}
use Rattle.ps_io.specs.Contents.{Gains, GainsFront}
use Rattle.ps_io.specs.Counts.{Rose}
use Rattle.ps_lines.specs.declared.bodies.Known.{Known}
use Rattle.ps_queries.specs.declared.askers.Asker.{Asker}
use Rattle.ps_store.specs.declared.events.Event.{Event}
use Rattle.ps_store.specs.declared.fixed.Fixed.{Fixed}
use Rattle.ps_store.specs.Courses.{Course, course_of, ledger_at}
use Rattle.ps_store.specs.Readings.{AreTooMany}
use Rattle.ps_session.specs.declared.phases.Phase.{Phase}
use Rattle.ps_session.specs.declared.phases.Phase.TheVariants.{Start, Download, Void, Done}
use Rattle.ps_session.specs.Sessions.{SessionState, IsDrained, begin, requested_in}
use Rattle.ps_streams.specs.Runs.{Turn, at_reached, reached}
use Rattle.ps_streams.specs.Turning.{IsUnderWay}
use Rattle.ps_serve.specs.declared.ends.End.{End}
use Rattle.ps_serve.specs.declared.ends.End.TheVariants.{Answered, Refused, Drained, Expired, PeerGone, CutRequest, TooMany, Memory}
use Rattle.ps_serve.specs.declared.outcomes.Served.{Served}
use Rattle.ps_serve.specs.Runs.{lines_text}
use Rattle.ps_serve.specs.SharedRuns.{IsInTime, IsRun, lines_of, served_of, served_before_line}

-- a take that is not the first
abbrev pub TakesAgain : Phase → Type 0
TakesAgain Start = ⊥
TakesAgain Download = ⊥
TakesAgain Void = Unit {0}
TakesAgain Done = Unit {0}

module _ (may_give : ℕ → Type 0) (exp : ℕ) (fixed : Fixed) (asker : Asker) (positions : List Known) (low : ℕ) (history : List Event) where
  abbrev pub course : Course
  course = course_of fixed.rules history asker

  abbrev pub first : SessionState
  first = begin (requested_in positions)

  -- at a place from this one on the asker has more buckets than the limit
  pub record AreTooManyAt (from count : ℕ) : Type 0 where
    pub place : ℕ
    pub later : from ≤ place
    pub within : place ≤ length history
    pub many : AreTooMany fixed.limits (ledger_at fixed.rules history place) asker count

  -- the session's turns led here, and behind some bytes all their lines were written
  pub record HasStreamed (front : List ℕ) (old new : Option (List ℕ)) (session : SessionState) (served : List Served) : Type 0 where
    pub start : ℕ
    pub place : ℕ
    pub turns : List Turn
    pub later : low ≤ start
    pub within : place ≤ length history
    pub run : IsRun may_give exp fixed.limits.buckets course positions start place turns
    pub session_is : session ≡ reached course first turns
    pub way : IsUnderWay course place (at_reached course start first turns) session
    pub served_is : served ≡ served_of course first [] turns
    pub written : Gains old new (front ++ lines_text (lines_of course positions start turns))

  -- the same, but the line of the last turn was not written whole
  pub record HasBroken (front : List ℕ) (old new : Option (List ℕ)) (served : List Served) : Type 0 where
    pub start : ℕ
    pub place : ℕ
    pub turns : List Turn
    pub last : Turn
    pub later : low ≤ start
    pub within : place ≤ length history
    pub run : IsRun may_give exp fixed.limits.buckets course positions start place (turns ++ last ∷ [])
    pub served_is : served ≡ served_before_line course last.place (reached course first turns) (served_of course first [] turns)
    pub written : GainsFront old new (front ++ lines_text (lines_of course positions start (turns ++ last ∷ [])))

  abbrev pub HasStreamedTo : List ℕ → Option (List ℕ) → Option (List ℕ) → List Served → (SessionState → Type 0) → Type 0
  HasStreamedTo front old new served there = (session : SessionState) × HasStreamed front old new session served × there session

  -- too many buckets, where a checkpoint was to be taken again
  pub record HasTooMany (front : List ℕ) (old new : Option (List ℕ)) (served : List Served) (count : ℕ) : Type 0 where
    pub session : SessionState
    pub streamed : HasStreamed front old new session served
    pub again : TakesAgain session.phase
    pub in_time : IsInTime may_give exp fixed.limits.buckets
    pub many : AreTooManyAt streamed.place count

  -- How a stream ended whose head was written. `Drained`: that is wanted, and the completed checkpoint shows all that will ever be. `Expired`: a
  -- checkpoint was to be taken again, and the clock gave a moment that is not before the token's end; `TooMany`: it gave one before it, and there were
  -- too many buckets then
  abbrev pub EndsSo : Bool → List ℕ → Option (List ℕ) → Option (List ℕ) → List Served → ℕ → ℕ → End → Type 0
  EndsSo until_drained front old new served before now Answered = ⊥
  EndsSo until_drained front old new served before now Refused = ⊥
  EndsSo until_drained front old new served before now Drained = HasStreamedTo front old new served IsDrained × (until_drained ≡ true)
  EndsSo until_drained front old new served before now (Expired moment) =
      HasStreamedTo front old new served (λ session. TakesAgain session.phase) × may_give moment × (exp ≤ moment)
  EndsSo until_drained front old new served before now PeerGone = HasBroken front old new served × Rose before now
  EndsSo until_drained front old new served before now CutRequest = ⊥
  EndsSo until_drained front old new served before now (TooMany count) = HasTooMany front old new served count
  EndsSo until_drained front old new served before now Memory = HasStreamedTo front old new served (λ session. Unit {0})
