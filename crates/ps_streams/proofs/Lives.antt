-- The lines that wait lead a client to where its session is.
use Rattle.std.proofs.Common.{ℕ, ◌+◌, ◌<◌, ◌≤◌, Option, Some, None, List, [], ◌∷◌, ◌++◌, refl, arith}
use Rattle.ps_lines.specs.declared.lines.Line.{Line}
use Rattle.ps_lines.specs.declared.lines.Line.TheVariants.{Expires}
use Rattle.ps_lines.specs.Writing.{without_targets}
use Rattle.ps_client.specs.Clients.{PlainClient, taken}
use Rattle.ps_store.specs.Courses.{Course}
use Rattle.ps_store.specs.CourseLaws.{IsLawful}
use Rattle.ps_session.specs.declared.phases.Phase.{Phase}
use Rattle.ps_session.specs.declared.phases.Phase.TheVariants.{Start, Download, Void, Done}
use Rattle.ps_session.specs.Sessions.{SessionState}
use Rattle.ps_streams.specs.Runs.{Made, IsToldIn, made_by, at_after, turn}
use Rattle.ps_streams.specs.Headline.{Local, AreHonest, client_of, with_local}
use Rattle.ps_streams.specs.Lives.{Link, Idle, Streaming, Life, Step, Grows, Opens, Turns, Takes, Cuts, Writes, turned, client_after, link_after, after_step, IsGoodFor, IsFine, IsFineThroughout, IsToldFor, IsToldStep, AreToldSteps, LivesAreFine}
use Rattle.ps_streams.specs.Led.{EmptyAreHonest, LeadsFirst, LeadsOn, LeadsLater, LeadsLocally, LeadsTaken, LedAreHonest}
use Rattle.ps_streams.proofs.HonestReaders.{taken-without}
use Rattle.ps_streams.specs.Ties.{TiedIn, Leads}
use Rattle.ps_streams.proofs.Ties.{Goes, Says, honest_at_end, honest_later, says_expires}
use Rattle.ps_streams.proofs.Turns.{goes}
use Rattle.ps_streams.proofs.Runs.{local_of}

module _ (course : Course) (lawful : IsLawful course) where
  leads_honest : (ms : List Made) (at place : ℕ) (session : SessionState) (client : PlainClient) → Leads course at place session client ms → AreHonest course place client.kept.bucket
  leads_honest [] at place session client leads = honest_at_end course lawful at place place session client.kept.bucket client.stream leads (omega arith)
  leads_honest (m ∷ ms) at place session client leads = leads.0

  leads_locally : (ms : List Made) (at place : ℕ) (session : SessionState) (client : PlainClient) (local : Local) → Leads course at place session client ms
      → Leads course at place session (with_local local client) ms
  leads_locally [] at place session client local leads = leads
  leads_locally (m ∷ ms) at place session client local leads = leads

  -- one more line
  leads_line : (at n : ℕ) (session : SessionState) (client : PlainClient) (line : Line) → AreHonest course n client.kept.bucket
      → ((local : Local) → Says course at n session line (client_of client.kept.bucket client.stream local)) → Leads course at n session client (record { at = at; line = line } ∷ [])
  leads_line at n session client line honest says =
      (honest, (says (local_of client)).writable, λ local. rw (taken-without (with_local local client) line) ((says local).good, (says local).tied))

  leads_by : (at n : ℕ) (session : SessionState) (client : PlainClient) (line : Option Line) (expires : Option ℕ) → AreHonest course n client.kept.bucket
      → Goes course at n session line client.kept.bucket client.stream → Leads course at n session client (made_by at line expires [])
  leads_by at n session client None None honest goes_so = goes_so
  leads_by at n session client None (Some seconds) honest goes_so = leads_line at n session client (Expires seconds) honest (says_expires course at n seconds session client.kept.bucket client.stream goes_so)
  leads_by at n session client (Some line) expires honest goes_so = leads_line at n session client line honest goes_so

  -- a turn of the session, while lines wait
  leads_turn : (ms : List Made) (at place n : ℕ) (session : SessionState) (client : PlainClient) (expires : Option ℕ) → place ≤ n → IsToldIn session.phase course n
      → Leads course at place session client ms
      → Leads course (at_after session.phase at n) n (turn course n session).session client (ms ++ made_by (at_after session.phase at n) (turn course n session).line expires [])
  leads_turn [] at place n session client expires late known tied =
      leads_by (at_after session.phase at n) n (turn course n session).session client (turn course n session).line expires
      (honest_at_end course lawful at place n session client.kept.bucket client.stream tied late)
      (goes course lawful session.phase at place n session client.kept.bucket client.stream tied.late late known tied.phase)
  leads_turn (m ∷ ms) at place n session client expires late known leads = (
    honest_later course lawful place n client.kept.bucket late leads.0,
    leads.1,
    λ local. ((leads.2 local).0, leads_turn ms at place n session (taken (with_local local client) (without_targets m.line)).client expires late known (leads.2 local).1),
  )

  -- the history grows
  tied_later : (phase : Phase) (at place n : ℕ) (session : SessionState) (client : PlainClient) → place ≤ n → at ≤ place → TiedIn phase course at place session client.kept.bucket client.stream
      → TiedIn phase course at n session client.kept.bucket client.stream
  tied_later Start at place n session client late low tied =
      record { asked = tied.asked; requested = tied.requested; honest = honest_later course lawful place n client.kept.bucket late tied.honest }
  tied_later Download at place n session client late low tied = tied
  tied_later Void at place n session client late low tied =
      let more : session.last.last_op.0 < course.op n = omega (arith, tied.more, lawful.climb.op place n late) in
      let shares = tied.since.shares in
      record {
        since = record {
          table = tied.since.table;
          open_is = tied.since.open_is;
          taken_is = tied.since.taken_is;
          taken_told = tied.since.taken_told;
          shares = record {
            op = shares.op;
            number = shares.number;
            tells = shares.tells;
            places_are = shares.places_are;
            only = shares.only;
            honest = honest_later course lawful place n client.kept.bucket late shares.honest;
          };
        };
        more = more;
      }
  tied_later Done at place n session client late low tied = tied

  leads_later : (ms : List Made) (at place n : ℕ) (session : SessionState) (client : PlainClient) → place ≤ n → Leads course at place session client ms → Leads course at n session client ms
  leads_later [] at place n session client late tied = record { late = omega (arith, tied.late); phase = tied_later session.phase at place n session client late tied.late tied.phase }
  leads_later (m ∷ ms) at place n session client late leads = (
    honest_later course lawful place n client.kept.bucket late leads.0,
    leads.1,
    λ local. ((leads.2 local).0, leads_later ms at place n session (taken (with_local local client) (without_targets m.line)).client late (leads.2 local).1),
  )

  -- ---- lives

  abbrev Lives : ℕ → PlainClient → Link → Type 0
  Lives place client Idle = AreHonest course place client.kept.bucket
  Lives place client (Streaming at session waiting) = Leads course at place session client waiting

  lives_honest : (place : ℕ) (client : PlainClient) (link : Link) → Lives place client link → AreHonest course place client.kept.bucket
  lives_honest place client Idle lives = lives
  lives_honest place client (Streaming at session waiting) lives = leads_honest waiting at place session client lives

  good : (place : ℕ) (client : PlainClient) (link : Link) → Lives place client link → IsGoodFor course client link
  good place client Idle lives = tt
  good place client (Streaming at session []) lives = tt
  good place client (Streaming at session (m ∷ ms)) lives = (lives.2 (local_of client)).0

  fine : (life : Life) (s : Step) → Lives life.place life.client life.link → IsFine course life s
  fine life Grows lives = tt
  fine life Opens lives = tt
  fine life (Turns expires) lives = tt
  fine life Takes lives = good life.place life.client life.link lives
  fine life (Cuts stream) lives = tt
  fine life (Writes local) lives = tt

  lives_turned : (place : ℕ) (client : PlainClient) (expires : Option ℕ) (link : Link) → IsToldFor course place link → Lives place client link → Lives place client (turned course place expires link)
  lives_turned place client expires Idle known lives = lives
  lives_turned place client expires (Streaming at session waiting) known lives = leads_turn waiting at place place session client expires (omega arith) known lives

  lives_taken : (place : ℕ) (client : PlainClient) (link : Link) → Lives place client link → Lives place (client_after client link) (link_after link)
  lives_taken place client Idle lives = lives
  lives_taken place client (Streaming at session []) lives = lives
  lives_taken place client (Streaming at session (m ∷ ms)) lives = (lives.2 (local_of client)).1

  lives_later : (place n : ℕ) (client : PlainClient) (link : Link) → place ≤ n → Lives place client link → Lives n client link
  lives_later place n client Idle late lives = honest_later course lawful place n client.kept.bucket late lives
  lives_later place n client (Streaming at session waiting) late lives = leads_later waiting at place n session client late lives

  lives_locally : (place : ℕ) (client : PlainClient) (local : Local) (link : Link) → Lives place client link → Lives place (with_local local client) link
  lives_locally place client local Idle lives = lives
  lives_locally place client local (Streaming at session waiting) lives = leads_locally waiting at place session client local lives

  lives_on : (life : Life) (s : Step) → IsToldStep course life s → Lives life.place life.client life.link
      → Lives (after_step course life s).place (after_step course life s).client (after_step course life s).link
  lives_on life Grows known lives = lives_later life.place (life.place + 1) life.client life.link (omega arith) lives
  lives_on life Opens known lives =
      record { late = omega arith; phase = record { asked = refl; requested = λ name. refl; honest = lives_honest life.place life.client life.link lives } }
  lives_on life (Turns expires) known lives = lives_turned life.place life.client expires life.link known lives
  lives_on life Takes known lives = lives_taken life.place life.client life.link lives
  lives_on life (Cuts stream) known lives = lives_honest life.place life.client life.link lives
  lives_on life (Writes local) known lives = lives_locally life.place life.client local life.link lives

  lives_throughout : (steps : List Step) (life : Life) → AreToldSteps course life steps → Lives life.place life.client life.link → IsFineThroughout course life steps
  lives_throughout [] life known lives = lives_honest life.place life.client life.link lives
  lives_throughout (s ∷ ss) life known lives =
      (lives_honest life.place life.client life.link lives, fine life s lives, lives_throughout ss (after_step course life s) known.1 (lives_on life s known.0 lives))

pub lives_are_fine : LivesAreFine
lives_are_fine course place client steps lawful known honest = lives_throughout course lawful steps (record { place = place; client = client; link = Idle }) known honest

-- ---- the same, event by event

pub empty_are_honest : EmptyAreHonest
empty_are_honest course place lawful name = lawful.later.afresh place name

pub leads_first : LeadsFirst
leads_first course place requested client honest asked asks = record { late = omega arith; phase = record { asked = asked; requested = asks; honest = honest } }

pub leads_on : LeadsOn
leads_on course at place n session client waiting expires lawful late known leads = leads_turn course lawful waiting at place n session client expires late known leads

pub leads_later_on : LeadsLater
leads_later_on course at place n session client waiting lawful late leads = leads_later course lawful waiting at place n session client late leads

pub leads_locally_on : LeadsLocally
leads_locally_on course at place session client [] local leads = leads
leads_locally_on course at place session client (m ∷ ms) local leads = leads

pub leads_taken : LeadsTaken
leads_taken course at place session client m waiting leads = (leads.1, (leads.2 (local_of client)).0, (leads.2 (local_of client)).1)

pub led_are_honest : LedAreHonest
led_are_honest course at place session client waiting lawful leads = leads_honest course lawful waiting at place session client leads
