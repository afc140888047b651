-- What keeps a client led by the lines of its session, event by event.
use Rattle.std.specs.Prelude.{◌≡◌, ℕ, ◌≤◌, List, [], ◌∷◌, ◌++◌, Option, None}
use Rattle.ps_lines.specs.Writing.{IsWritable, without_targets}
use Rattle.ps_client.specs.declared.streams.Stream.TheVariants.{Asked}
use Rattle.ps_client.specs.Clients.{PlainClient, taken}
use Rattle.ps_store.specs.Courses.{Course}
use Rattle.ps_store.specs.CourseLaws.{IsLawful}
use Rattle.ps_session.specs.Sessions.{SessionState, begin}
use Rattle.ps_streams.specs.Runs.{Made, IsToldIn, made_by, at_after, turn}
use Rattle.ps_streams.specs.Headline.{Local, AreHonest, AsksOn, IsGood, with_local}
use Rattle.ps_streams.specs.Ties.{Leads}

-- who has no buckets is honest
abbrev pub EmptyAreHonest : Type 0
EmptyAreHonest = (course : Course) (place : ℕ) → IsLawful course → AreHonest course place (λ name. None)

-- an honest client that asks to go on is led by the session of its request
abbrev pub LeadsFirst : Type 0
LeadsFirst = (course : Course) (place : ℕ) (requested : List ℕ → ℕ) (client : PlainClient)
    → AreHonest course place client.kept.bucket → client.stream ≡ Asked → AsksOn requested client.kept.bucket
    → Leads course place place (begin requested) client []

-- so it is after a turn of the session, whose line waits behind the others, where what is taken is told
abbrev pub LeadsOn : Type 0
LeadsOn = (course : Course) (at place n : ℕ) (session : SessionState) (client : PlainClient) (waiting : List Made) (expires : Option ℕ)
    → IsLawful course → place ≤ n → IsToldIn session.phase course n
    → Leads course at place session client waiting
    → Leads course (at_after session.phase at n) n (turn course n session).session client
    (waiting ++ made_by (at_after session.phase at n) (turn course n session).line expires [])

-- as the history grows
abbrev pub LeadsLater : Type 0
LeadsLater = (course : Course) (at place n : ℕ) (session : SessionState) (client : PlainClient) (waiting : List Made) → IsLawful course → place ≤ n
    → Leads course at place session client waiting → Leads course at n session client waiting

-- after local writes, and with whatever rows the client shows
abbrev pub LeadsLocally : Type 0
LeadsLocally = (course : Course) (at place : ℕ) (session : SessionState) (client : PlainClient) (waiting : List Made) (local : Local)
    → Leads course at place session client waiting → Leads course at place session (with_local local client) waiting

-- and after the first line that waits, to which the answer is good
abbrev pub LeadsTaken : Type 0
LeadsTaken = (course : Course) (at place : ℕ) (session : SessionState) (client : PlainClient) (m : Made) (waiting : List Made)
    → Leads course at place session client (m ∷ waiting)
    → IsWritable m.line × IsGood course m.at client.kept (taken client (without_targets m.line)).answer
    × Leads course at place session (taken client (without_targets m.line)).client waiting

-- who is led is honest
abbrev pub LedAreHonest : Type 0
LedAreHonest = (course : Course) (at place : ℕ) (session : SessionState) (client : PlainClient) (waiting : List Made) → IsLawful course
    → Leads course at place session client waiting → AreHonest course place client.kept.bucket
