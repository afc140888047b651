-- A line that waits is taken.
use Rattle.std.proofs.Common.{◌≡◌, ℕ, Option, Some, None, [], sym, subst}
use Rattle.ps_lines.specs.declared.lines.Line.{Line}
use Rattle.ps_lines.specs.Writing.{IsWritable, without_targets}
use Rattle.ps_client.specs.Clients.{PlainClient, taken}
use Rattle.ps_store.specs.Courses.{Course}
use Rattle.ps_session.specs.Sessions.{SessionState}
use Rattle.ps_streams.specs.Runs.{made_by}
use Rattle.ps_streams.specs.Headline.{Local, IsGood, with_local}
use Rattle.ps_streams.specs.Led.{LeadsTaken, LeadsLocally}
use Rattle.ps_streams.specs.Ties.{Leads}

pub waits : LeadsTaken → (course : Course) (at n : ℕ) (session : SessionState) (client : PlainClient) (line : Line) (waiting : Option Line) → waiting ≡ Some line
    → Leads course at n session client (made_by at waiting None [])
    → IsWritable line × IsGood course at client.kept (taken client (without_targets line)).answer
    × Leads course at n session (taken client (without_targets line)).client []
waits takes course at n session client line waiting is leads =
    takes course at n session client (record { at = at; line = line }) []
    (subst (λ (o : Option Line). Leads course at n session client (made_by at o None [])) is leads)

pub passed : LeadsTaken → LeadsLocally → (course : Course) (at n : ℕ) (session : SessionState) (client new : PlainClient) (line : Line) (waiting : Option Line) → waiting ≡ Some line
    → (local : Local) × (new ≡ with_local local (taken client (without_targets line)).client)
    → Leads course at n session client (made_by at waiting None []) → Leads course at n session new []
passed takes locally course at n session client new line waiting is lead leads =
    subst (λ (c : PlainClient). Leads course at n session c []) (sym lead.1)
    (locally course at n session (taken client (without_targets line)).client [] lead.0 (waits takes course at n session client line waiting is leads).2)

pub nothing_waits : (course : Course) (at n : ℕ) (session : SessionState) (client : PlainClient) (waiting : Option Line) → waiting ≡ None
    → Leads course at n session client (made_by at waiting None []) → Leads course at n session client []
nothing_waits course at n session client waiting is leads = subst (λ (o : Option Line). Leads course at n session client (made_by at o None [])) is leads
