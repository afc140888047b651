use Rattle.std.proofs.Common.{refl, arith}
use Rattle.ps_client.specs.States.{state}
use Rattle.ps_audit.specs.Judging.{texts}
use Rattle.ps_audit.specs.Places.{case_of}
use Rattle.ps_audit.proofs.Heard.{leads_start, broken_at, more_at}
use Rattle.ps_audit.proofs.Placing.{stands_first}
use Rattle.ps_audit.proofs.hearing.hear_all.Goals as goal

pub lines-init : goal.lines-init
lines-init c = record {
  number = refl;
  stands = stands_first (case_of c.args.subject.now) c.new-cursor.result c.new-cursor.ensures.place c.new-cursor.ensures.position c.new-cursor.ensures.source;
  leads = leads_start (case_of c.args.subject.now) (texts c.args.lines.now) (state c.in_ok-client.client) c.new-cursor.result.position.0 c.new-completed.result c.in_ok-client.ensures c.new-cursor.ensures.position c.new-completed.ensures;
}

pub returns-in-Some : goal.returns-in-Some
returns-in-Some c =
    broken_at (case_of c.args.subject.now) (texts c.args.lines.now) c.args.lines.now c.lines.line-index c.line-item.result c.as_slice.result.now (state c.lines.client)
    (record { line = c.lines.number; position = c.lines.cursor.position.0; completed = c.lines.completed }) c.note.new.completed c.in_ok-kind.field-0
    c.lines-test.true c.line-item.is c.as_slice.ensures.value c.lines.invariant.leads c.in_ok-outcome.outcome c.in-Some.kind c.in_ok-outcome.ensures.judged c.in_ok-kind.ensures c.in-Some.is

pub lines-preserved : goal.lines-preserved
lines-preserved c = record {
  number = omega (arith, c.lines.invariant.number);
  stands = c.in_ok-outcome.ensures.stands;
  leads = more_at (case_of c.args.subject.now) (texts c.args.lines.now) c.args.lines.now c.lines.line-index c.line-item.result c.as_slice.result.now (state c.lines.client)
      (record { line = c.lines.number; position = c.lines.cursor.position.0; completed = c.lines.completed }) c.note.new.completed c.in_ok-kind.field-0
      c.lines-test.true c.line-item.is c.as_slice.ensures.value c.lines.invariant.leads c.in_ok-outcome.outcome (state c.hear.new.client) c.hear.new.cursor.position.0
      c.in_ok-outcome.ensures.judged c.in_ok-outcome.ensures.client c.in_ok-outcome.ensures.on c.in_ok-kind.ensures c.in_default.not-Some;
}
