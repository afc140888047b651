-- A client over many streams, event by event: the store's history grows, streams are opened, turned and cut, lines wait and are taken,
-- and there are local writes.
use Rattle.std.specs.Prelude.{ℕ, ◌+◌, List, [], ◌∷◌, ◌++◌, Option}
use Rattle.ps_lines.specs.Writing.{without_targets}
use Rattle.ps_client.specs.declared.streams.Stream.{Stream}
use Rattle.ps_client.specs.declared.streams.Stream.TheVariants.{Asked}
use Rattle.ps_client.specs.Clients.{PlainClient, taken}
use Rattle.ps_store.specs.Courses.{Course}
use Rattle.ps_store.specs.CourseLaws.{IsLawful}
use Rattle.ps_session.specs.Sessions.{SessionState, begin}
use Rattle.ps_streams.specs.Runs.{Made, IsToldIn, made_by, at_after, turn}
use Rattle.ps_streams.specs.Headline.{Local, AreHonest, IsGood, reader_of, with_local}

-- the stream of a client, with the place of its last take and the lines that were made and not taken
pub data Link : Type 0 where
  Idle : Link
  Streaming : (at : ℕ) → (session : SessionState) → (waiting : List Made) → Link

pub record Life : Type 0 where
  -- the place of the history
  pub place : ℕ
  pub client : PlainClient
  pub link : Link

pub data Step : Type 0 where
  Grows : Step
  Opens : Step
  Turns : (expires : Option ℕ) → Step
  Takes : Step
  -- the client is left with a stream that goes on nowhere
  Cuts : (stream : Stream) → Step
  Writes : (local : Local) → Step

-- where each bucket of a client stands
abbrev pub positions_of : PlainClient → List ℕ → ℕ
positions_of client name = (reader_of client.kept.bucket name).position

abbrev pub turned : Course → ℕ → Option ℕ → Link → Link
turned course place expires Idle = Idle
turned course place expires (Streaming at session waiting) =
    Streaming (at_after session.phase at place) (turn course place session).session
    (waiting ++ made_by (at_after session.phase at place) (turn course place session).line expires [])

abbrev pub client_after : PlainClient → Link → PlainClient
client_after client Idle = client
client_after client (Streaming at session []) = client
client_after client (Streaming at session (m ∷ ms)) = (taken client (without_targets m.line)).client

abbrev pub link_after : Link → Link
link_after Idle = Idle
link_after (Streaming at session []) = Streaming at session []
link_after (Streaming at session (m ∷ ms)) = Streaming at session ms

abbrev pub after_step : Course → Life → Step → Life
after_step course life Grows = record life { place = life.place + 1 }
after_step course life Opens = record life {
  client = record life.client { stream = Asked };
  link = Streaming life.place (begin (positions_of life.client)) [];
}
after_step course life (Turns expires) = record life { link = turned course life.place expires life.link }
after_step course life Takes = record life { client = client_after life.client life.link; link = link_after life.link }
after_step course life (Cuts stream) = record life { client = record life.client { stream = stream }; link = Idle }
after_step course life (Writes local) = record life { client = with_local local life.client }

-- what a session takes is told
abbrev pub IsToldFor : Course → ℕ → Link → Type 0
IsToldFor course place Idle = Unit {0}
IsToldFor course place (Streaming at session waiting) = IsToldIn session.phase course place

abbrev pub IsToldStep : Course → Life → Step → Type 0
IsToldStep course life Grows = Unit {0}
IsToldStep course life Opens = Unit {0}
IsToldStep course life (Turns expires) = IsToldFor course life.place life.link
IsToldStep course life Takes = Unit {0}
IsToldStep course life (Cuts stream) = Unit {0}
IsToldStep course life (Writes local) = Unit {0}

abbrev pub AreToldSteps : Course → Life → List Step → Type 0
AreToldSteps course life [] = Unit {0}
AreToldSteps course life (s ∷ ss) = IsToldStep course life s × AreToldSteps course (after_step course life s) ss

-- what the client takes is good
abbrev pub IsGoodFor : Course → PlainClient → Link → Type 0
IsGoodFor course client Idle = Unit {0}
IsGoodFor course client (Streaming at session []) = Unit {0}
IsGoodFor course client (Streaming at session (m ∷ ms)) = IsGood course m.at client.kept (taken client (without_targets m.line)).answer

abbrev pub IsFine : Course → Life → Step → Type 0
IsFine course life Grows = Unit {0}
IsFine course life Opens = Unit {0}
IsFine course life (Turns expires) = Unit {0}
IsFine course life Takes = IsGoodFor course life.client life.link
IsFine course life (Cuts stream) = Unit {0}
IsFine course life (Writes local) = Unit {0}

-- the client is honest at every point, and all that it takes is good
abbrev pub IsFineThroughout : Course → Life → List Step → Type 0
IsFineThroughout course life [] = AreHonest course life.place life.client.kept.bucket
IsFineThroughout course life (s ∷ ss) = AreHonest course life.place life.client.kept.bucket × IsFine course life s × IsFineThroughout course (after_step course life s) ss

abbrev pub LivesAreFine : Type 0
LivesAreFine = (course : Course) (place : ℕ) (client : PlainClient) (steps : List Step) → IsLawful course
    → AreToldSteps course (record { place = place; client = client; link = Idle }) steps → AreHonest course place client.kept.bucket
    → IsFineThroughout course (record { place = place; client = client; link = Idle }) steps
