-- The end of a checkpoint.
use Rattle.std.proofs.Common.{◌≡◌, ℕ, Some, Ok, List, [], refl, sym, ap, subst, ◌∙◌, length}
use Rattle.ps_rows.specs.declared.shown.Shown.{Shown}
use Rattle.ps_lines.specs.declared.lines.Line.{Line}
use Rattle.ps_lines.specs.declared.lines.Line.TheVariants.{Complete as CompleteLine}
use Rattle.ps_lines.specs.Writing.{IsWritable, without_targets}
use Rattle.ps_client.specs.declared.events.Event.{Event}
use Rattle.ps_client.specs.Clients.{PlainClient, taken}
use Rattle.ps_queries.specs.declared.askers.Asker.{Asker}
use Rattle.ps_store.specs.declared.events.Event.{Event as StoreEvent}
use Rattle.ps_store.specs.declared.fixed.Fixed.{Fixed}
use Rattle.ps_store.specs.Courses.{Course, course_of}
use Rattle.ps_store.specs.CourseLaws.{IsLawful}
use Rattle.ps_session.specs.declared.actions.Action.TheVariants.{Complete}
use Rattle.ps_session.specs.declared.phases.Phase.{Phase}
use Rattle.ps_session.specs.declared.phases.Phase.TheVariants.{Start, Download, Void, Done}
use Rattle.ps_session.specs.Sessions.{SessionState, Turned, action_in, next_action, finished}
use Rattle.ps_streams.specs.declared.outcomes.TurnOutcome.{TurnOutcome}
use Rattle.ps_streams.specs.Turning.{TurnsSo, line_in}
use Rattle.ps_streams.specs.Headline.{IsGood, AreListed}
use Rattle.ps_streams.specs.Led.{LeadsOn, LeadsTaken}
use Rattle.ps_streams.specs.Calls.{FinishesAreTurns, IsRightEvent}
use Rattle.ps_streams.specs.Ties.{Leads}
use Rattle.ps_due_rows.specs.Turning.{IsLed, IsIdle}
use Rattle.ps_due_rows.proofs.Leading.{turn_leads}
use Rattle.ps_due_rows.proofs.Passing.{waits}
use Rattle.ps_due_rows.proofs.SyncAnswers.{applies, shows_due}

downloading : (session : SessionState) → next_action session ≡ Complete → session.phase ≡ Download
downloading session action = by session.phase refl action
  where
    by : (phase : Phase) → session.phase ≡ phase → action_in phase session ≡ Complete → session.phase ≡ Download
    by Start is asked = cc
    by Download is asked = is
    by Void is asked = cc
    by Done is asked = cc

-- the line of the turn that ends the checkpoint
pub end_line : FinishesAreTurns → (fixed : Fixed) (history : List StoreEvent) (asker : Asker) (before now : SessionState) (outcome : TurnOutcome) (line : Line)
    → next_action before ≡ Complete → TurnsSo fixed history asker (length history) before now (Ok outcome) → Some line ≡ line_in outcome → Some line ≡ (finished before).line
end_line finishes fixed history asker before now outcome line action it is =
    let course = course_of fixed.rules history asker in
    let n = length history in
    is ∙ it.line_is ∙ ap (λ (t : Turned). t.line) (finishes course n n before action).0

module _ (finishes : FinishesAreTurns) (on : LeadsOn) (takes : LeadsTaken) (course : Course) (n : ℕ) (session : SessionState) (client : PlainClient) (line : Line)
    (lawful : IsLawful course) (led : IsLed course n session client) (action : next_action session ≡ Complete) (line_is : Some line ≡ (finished session).line) where
  pub end_waits : IsWritable line × IsGood course n client.kept (taken client (without_targets line)).answer × Leads course n n (finished session).session (taken client (without_targets line)).client []
  end_waits =
      let step = finishes course n n session action in
      waits takes course n n (finished session).session client line (finished session).line (sym line_is)
      (turn_leads on course n session client (finished session) lawful step.2 step.0 led)

  pub end_shows : IsIdle client → (new : PlainClient) (event : Event) → (taken client (without_targets line)).answer ≡ Ok event
      → (IsGood course n client.kept (taken client (without_targets line)).answer → IsRightEvent course n client new event)
      → (rows : List Shown) → AreListed new.kept.shown rows → rows ≡ course.due n
  end_shows idle new event answer right rows listed =
      let same : line ≡ CompleteLine session.last.last_op = cc in
      let good = end_waits.1 in
      let there : IsGood course n client.kept (taken client (CompleteLine session.last.last_op)).answer =
      subst (λ (l : Line). IsGood course n client.kept (taken client (without_targets l)).answer) same good in
      let end = applies course n session client session.last.last_op led (downloading session action) idle there in
      let answer_there : (taken client (CompleteLine session.last.last_op)).answer ≡ Ok event = subst (λ (l : Line). (taken client (without_targets l)).answer ≡ Ok event) same answer in
      shows_due course n client new (taken client (CompleteLine session.last.last_op)).answer event end.0 answer_there end.1 (right good) rows listed
