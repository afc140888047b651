-- A client of a play, and what an event of it leaves.
use Rattle.std.proofs.Common.{◌≡◌, ℕ, true, false, Option, Some, None, Ok, Err, List, [], ◌∷◌, ◌++◌, refl, sym, subst}
use Rattle.std.specs.Prelude.{if◌then◌else◌, bytes_eq, IfOk, Result}
use Rattle.std.proofs.lemmas.Bool.{cond-true, cond-false}
use Rattle.std.proofs.lemmas.List.{append-nil}
use Rattle.std.proofs.lemmas.Slice.Eq.{bytes_eq-Decides}
use Rattle.ps_data.specs.declared.shortage.Memory.{Memory}
use Rattle.ps_queries.specs.declared.askers.Asker.{Asker}
use Rattle.ps_script.specs.declared.events.ScriptEvent.{ScriptEvent}
use Rattle.ps_store.specs.declared.events.Event.{Event}
use Rattle.ps_store.specs.declared.fixed.Fixed.{Fixed}
use Rattle.ps_store.specs.declared.stores.Store.{Store}
use Rattle.ps_store.specs.Stores.{StoreStandsFor}
use Rattle.ps_streams.specs.Lives.{Link, Idle, Streaming}
use Rattle.ps_streams.specs.Runs.{Made}
use Rattle.ps_session.specs.Sessions.{SessionState}
use Rattle.ps_core.specs.declared.effects.Effect.{Effect}
use Rattle.ps_core.specs.Plays.{Play, happens, says, with_reader}
use Rattle.ps_core.specs.Plays as plays
use Rattle.ps_core.specs.ReaderEvents.{becomes}
use Rattle.ps_core.specs.PlaySteps.{Comes, refusal}
use Rattle.ps_core.specs.declared.readers.Reader.{Reader}
use Rattle.ps_core.specs.declared.readers.Stream.{Stream}
use Rattle.ps_core.specs.Texts.{IsPrintable}
use Rattle.ps_core.specs.Parts.{Acts, CameTo, faulted}
use Rattle.ps_core.specs.Worlds.{LinkStandsFor, ReaderStandsFor, StreamStandsFor}

pub itself : (name : List ℕ) → bytes_eq name name ≡ true
itself name = (bytes_eq-Decides name name).1 refl

pub same_names : (a b : List ℕ) → bytes_eq a b ≡ true → a ≡ b
same_names a b same = (bytes_eq-Decides a b).0 same

-- ---- what an event of a client leaves

module _ (fixed : Fixed) (play : Play) (asked : ScriptEvent) (name : List ℕ) (store : Store) (new : Reader) (effect own : Effect) (is : effect ≡ own) (printable : IsPrintable own) where
  others_stay : (reader : plays.Reader) (other : List ℕ) → bytes_eq name other ≡ false → (if bytes_eq name other then Some reader else play.readers other) ≡ play.readers other
  others_stay reader other apart = cond-false (bytes_eq name other) (Some reader) (play.readers other) apart

  there : (reader : plays.Reader) → (if bytes_eq name name then Some reader else play.readers name) ≡ Some reader
  there reader = cond-true (bytes_eq name name) (Some reader) (play.readers name) (itself name)

  -- the client is another
  pub became : (reader : plays.Reader) → Comes fixed play asked (becomes effect name reader play) → StoreStandsFor fixed store play.history → ReaderStandsFor fixed play.history new reader
      → CameTo fixed play asked name store new own
  became reader comes stands reader_stands = record {
    outcome = becomes effect name reader play;
    came = record { comes = comes; effect_is = is; printable = printable; more = []; history = sym (append-nil play.history); stands = stands; next = refl };
    left = refl;
    others = others_stay reader;
    reader = reader;
    named = there reader;
    reader_stands = reader_stands;
  }

  -- and the store does one more thing
  pub happened_to : (event : Event) (reader : plays.Reader) → Comes fixed play asked (record { effect = effect; play = with_reader name reader (happens event play) })
      → StoreStandsFor fixed store (play.history ++ event ∷ []) → ReaderStandsFor fixed (play.history ++ event ∷ []) new reader
      → CameTo fixed play asked name store new own
  happened_to event reader comes stands reader_stands = record {
    outcome = record { effect = effect; play = with_reader name reader (happens event play) };
    came = record { comes = comes; effect_is = is; printable = printable; more = event ∷ []; history = refl; stands = stands; next = refl };
    left = refl;
    others = others_stay reader;
    reader = reader;
    named = there reader;
    reader_stands = reader_stands;
  }

  -- nothing is another
  pub said_to : (reader : plays.Reader) → play.readers name ≡ Some reader → Comes fixed play asked (says effect play) → StoreStandsFor fixed store play.history
      → ReaderStandsFor fixed play.history new reader → CameTo fixed play asked name store new own
  said_to reader named comes stands reader_stands = record {
    outcome = says effect play;
    came = record { comes = comes; effect_is = is; printable = printable; more = []; history = sym (append-nil play.history); stands = stands; next = refl };
    left = refl;
    others = λ other apart. refl;
    reader = reader;
    named = named;
    reader_stands = reader_stands;
  }

-- ---- its stream

pub idle_so : (fixed : Fixed) (history : List Event) (asker : Asker) (own : Option Stream) (link : Link) → own ≡ None → LinkStandsFor fixed history asker own link → link ≡ Idle
idle_so fixed history asker own Idle none stands = refl
idle_so fixed history asker own (Streaming at session waiting) none stands =
    absurd (subst (λ (o : Option Stream). LinkStandsFor fixed history asker o (Streaming at session waiting)) none stands)

-- where it has one, it stands for a session and lines that wait
pub record HasLink (fixed : Fixed) (history : List Event) (asker : Asker) (stream : Stream) (link : Link) : Type 0 where
  pub at : ℕ
  pub session : SessionState
  pub waiting : List Made
  pub link_is : link ≡ Streaming at session waiting
  pub stands : StreamStandsFor fixed history asker stream at session waiting

pub streams_so : (fixed : Fixed) (history : List Event) (asker : Asker) (own : Option Stream) (stream : Stream) (link : Link) → own ≡ Some stream → LinkStandsFor fixed history asker own link
    → HasLink fixed history asker stream link
streams_so fixed history asker own stream Idle some stands = absurd (subst (λ (o : Option Stream). LinkStandsFor fixed history asker o Idle) some stands)
streams_so fixed history asker own stream (Streaming at session waiting) some stands = record {
  at = at;
  session = session;
  waiting = waiting;
  link_is = refl;
  stands = subst (λ (o : Option Stream). LinkStandsFor fixed history asker o (Streaming at session waiting)) some stands;
}

-- ---- out of memory

-- where the event may come, out of memory is an answer
pub acted_or : {P : Effect → Type 0} (fixed : Fixed) (play : Play) (event : ScriptEvent) (name : List ℕ) (store : Store) (own : Reader) (done : Result Effect Memory)
    → refusal play event ≡ None → IfOk done P → ((effect : Effect) → P effect → CameTo fixed play event name store own effect) → Acts fixed play event name store own (faulted done)
acted_or fixed play event name store own (Ok effect) may came gives = gives effect came
acted_or fixed play event name store own (Err want) may came gives = may
