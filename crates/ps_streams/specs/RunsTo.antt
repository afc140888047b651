-- Where the runs of sessions lead.
use Rattle.std.specs.Prelude.{◌≡◌, ℕ, ◌≤◌, List}
use Rattle.ps_store.specs.Courses.{Course}
use Rattle.ps_session.specs.Sessions.{SessionState, begin}
use Rattle.ps_streams.specs.Headline.{AgreeUpTo}
use Rattle.ps_streams.specs.Runs.{Turn, Climbs, at_after, at_reached, reached, turn}

-- a run that began with a request, and whose places climb up to this one, led the session here; its last take is at that place
pub record IsRunTo (course : Course) (place at : ℕ) (session : SessionState) : Type 0 where
  pub start : ℕ
  pub requested : List ℕ → ℕ
  pub turns : List Turn
  pub climbs : Climbs start turns place
  pub session_is : session ≡ reached course (begin requested) turns
  pub at_is : at ≡ at_reached course start (begin requested) turns

-- a session that begins is such a run
abbrev pub RunsBegin : Type 0
RunsBegin = (course : Course) (place : ℕ) (requested : List ℕ → ℕ) → IsRunTo course place place (begin requested)

-- so it is after a turn
abbrev pub RunsTurn : Type 0
RunsTurn = (course : Course) (at place n : ℕ) (session : SessionState) → place ≤ n → IsRunTo course place at session
    → IsRunTo course n (at_after session.phase at n) (turn course n session).session

-- as the place grows
abbrev pub RunsStay : Type 0
RunsStay = (course : Course) (at place n : ℕ) (session : SessionState) → place ≤ n → IsRunTo course place at session → IsRunTo course n at session

-- and over another course with the same readings up to the place
abbrev pub RunsCarry : Type 0
RunsCarry = (a b : Course) (at place : ℕ) (session : SessionState) → AgreeUpTo a b place → IsRunTo a place at session → IsRunTo b place at session
