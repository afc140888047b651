-- Where a turn leads a client, over the readings of a whole history.
use Rattle.std.proofs.Common.{◌≡◌, ℕ, None, List, [], refl, sym, ap, subst, length, arith}
use Rattle.ps_queries.specs.declared.askers.Asker.{Asker}
use Rattle.ps_granted.specs.Latest.{due}
use Rattle.ps_client.specs.Clients.{PlainClient}
use Rattle.ps_store.specs.declared.events.Event.{Event}
use Rattle.ps_store.specs.declared.fixed.Fixed.{Fixed}
use Rattle.ps_store.specs.declared.stores.Store.{Store}
use Rattle.ps_store.specs.Ledgers.{Ledger, ledger_of}
use Rattle.ps_store.specs.Courses.{Course, course_of}
use Rattle.ps_store.specs.CourseLaws.{IsLawful, CoursesAreLawful, EndsAreWhole}
use Rattle.ps_session.specs.declared.phases.Phase.{Phase}
use Rattle.ps_session.specs.declared.phases.Phase.TheVariants.{Start, Download, Void, Done}
use Rattle.ps_session.specs.Sessions.{SessionState, Turned}
use Rattle.ps_streams.specs.Runs.{IsToldIn, made_by, at_after, turn}
use Rattle.ps_streams.specs.Led.{LeadsOn}
use Rattle.ps_streams.specs.Ties.{Leads}
use Rattle.ps_store.specs.Stores.{StoreStandsFor}
use Rattle.ps_due_rows.specs.Turning.{IsLed, IsLedIn}

-- ---- readings at the end of a history

pub lawful_of : CoursesAreLawful → (fixed : Fixed) (store : Store) (history : List Event) (asker : Asker) → StoreStandsFor fixed store history
    → IsLawful (course_of fixed.rules history asker)
lawful_of lawful fixed store history asker serves = lawful fixed.rules history asker serves.rules serves.query_numbers serves.legal

pub due_is : EndsAreWhole → (fixed : Fixed) (history : List Event) (asker : Asker)
    → (course_of fixed.rules history asker).due (length history)
    ≡ due (ledger_of fixed.rules history).force.rules.definitions asker (ledger_of fixed.rules history).fed (ledger_of fixed.rules history).position
due_is whole fixed history asker = ap (λ (l : Ledger). due l.force.rules.definitions asker l.fed l.position) (whole fixed.rules history)

-- ---- turns there

pub at_end : (phase : Phase) (n : ℕ) → at_after phase n n ≡ n
at_end Start n = refl
at_end Download n = refl
at_end Void n = refl
at_end Done n = refl

pub turn_leads : LeadsOn → (course : Course) (n : ℕ) (session : SessionState) (client : PlainClient) (turned : Turned) → IsLawful course
    → IsToldIn session.phase course n → turn course n session ≡ turned → IsLed course n session client
    → Leads course n n turned.session client (made_by n turned.line None [])
turn_leads on course n session client turned lawful told is led =
    let step = on course n n n session client [] None lawful (omega arith) told led.leads in
    subst (λ (t : Turned). Leads course n n t.session client (made_by n t.line None [])) is
    (subst (λ (at : ℕ). Leads course at n (turn course n session).session client (made_by at (turn course n session).line None [])) (at_end session.phase n) step)

-- ---- askers

pub led_by : (fixed : Fixed) (history : List Event) (a b : Asker) (session : SessionState) (client : PlainClient) → a ≡ b → IsLedIn fixed history b session client
    → IsLedIn fixed history a session client
led_by fixed history a b session client same led = subst (λ (own : Asker). IsLedIn fixed history own session client) (sym same) led

pub due_by : (fixed : Fixed) (history : List Event) (a b : Asker) → a ≡ b
    → (course_of fixed.rules history a).due (length history) ≡ (course_of fixed.rules history b).due (length history)
due_by fixed history a b same = ap (λ (own : Asker). (course_of fixed.rules history own).due (length history)) same
