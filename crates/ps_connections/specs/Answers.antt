-- What the connections of a service were answered, over one history. `low` is how many events had been seen before the first one came.
use Rattle.std.specs.Prelude.{◌≡◌, ℕ, ◌+◌, Bool, true, false, List, [], ◌∷◌, ◌++◌, length, Option, Some, None}
use Rattle.std.specs.List.{list_any, flat_map}
use mathlib.Core.List.{IsPrefix}
use Rattle.ps_io.specs.Sources.{Input, unread}
use Rattle.ps_doors.specs.Connections.{Connection}
use Rattle.ps_store.specs.declared.events.Event.{Event}
use Rattle.ps_store.specs.declared.fixed.Fixed.{Fixed}
use Rattle.ps_streams.specs.Serving.{IsValid}
use Rattle.ps_serve.specs.declared.ends.End.{End}
use Rattle.ps_serve.specs.declared.ends.End.TheVariants.{Answered, Refused, Drained, Expired, PeerGone, CutRequest, TooMany, Memory}
use Rattle.ps_serve.specs.declared.outcomes.Outcome.{Outcome}
use Rattle.ps_serve.specs.declared.sites.Site.{Site}
use Rattle.ps_serve.specs.SharedAnswers.{AnswersAt}

-- ---- one connection

-- what came of a connection: how it ended, and what its worker's seat has added to the history
pub record Upshot : Type 0 where
  pub end : End
  pub own : List (Event × ℕ)

abbrev pub is_out_of_memory : End → Bool
is_out_of_memory Answered = false
is_out_of_memory Refused = false
is_out_of_memory Drained = false
is_out_of_memory (Expired moment) = false
is_out_of_memory PeerGone = false
is_out_of_memory CutRequest = false
is_out_of_memory (TooMany count) = false
is_out_of_memory Memory = true

-- what the source of a connection still has, where this is left
abbrev pub input_after : Connection → List ℕ → Input
input_after one rest = record { left = rest; given = one.given; ended = one.ended }

-- what its sink took is the answer to what its source handed out
pub record IsAnswered (fixed : Fixed) (site : Site) (may_give : ℕ → Type 0) (low : ℕ) (history : List Event) (one : Connection) (came : Upshot) : Type 0 where
  pub bytes : List ℕ
  pub rest : List ℕ
  pub outcome : Outcome
  pub end_is : outcome.end ≡ came.end
  pub answers : AnswersAt fixed low history may_give site.keys site.until_drained [] came.own
      (Some (unread bytes)) (Some (input_after one rest)) 0 one.read_faults (Some []) (Some one.taken) 0 one.write_faults outcome

-- the same in each legal history that goes on from what was seen
abbrev pub StaysAnswered : Fixed → Site → (ℕ → Type 0) → ℕ → List Event → Connection → Upshot → Type 0
StaysAnswered fixed site may_give low seen one came =
    (history : List Event) → IsPrefix seen history → IsValid fixed history → IsAnswered fixed site may_give low history one came

-- ---- all of them

module _ (IsSo : Connection → Upshot → Type 0) where
  -- their numbers rise by one from this one on, and each is so
  abbrev pub AreServed : ℕ → List Connection → List Upshot → Type 0
  AreServed number [] [] = Unit {0}
  AreServed number [] (came ∷ upshots) = ⊥
  AreServed number (one ∷ more) [] = ⊥
  AreServed number (one ∷ more) (came ∷ upshots) = (one.number ≡ number) × IsSo one came × AreServed (number + 1) more upshots

  -- as many connections were closed as were handed out, and each is so. Whether one ended for out of memory is told, and what they added to the history are
  -- own entries
  pub record HasServed (first : ℕ) (before after : List Connection) (count : ℕ) (short : Bool) (own own' : List (Event × ℕ)) : Type 0 where
    pub more : List Connection
    pub upshots : List Upshot
    pub closed : after ≡ before ++ more
    pub count_is : length more ≡ count
    pub served : AreServed first more upshots
    pub memory_is : short ≡ list_any (λ (came : Upshot). is_out_of_memory came.end) upshots
    pub own_is : own' ≡ own ++ flat_map (λ (came : Upshot). came.own) upshots

  -- the same of doors, where they tell what was closed
  abbrev pub HaveServed : ℕ → Option (List Connection) → Option (List Connection) → ℕ → Bool → List (Event × ℕ) → List (Event × ℕ) → Type 0
  HaveServed first before None count short own own' = Unit {0}
  HaveServed first None (Some after) count short own own' = ⊥
  HaveServed first (Some before) (Some after) count short own own' = HasServed first before after count short own own'
