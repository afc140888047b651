use Rattle.std.proofs.Common.{◌≡◌, ◌≢◌, ◌≤◌, Ok, Err, refl, sym, subst, ◌∙◌, arith, length}
use Rattle.std.specs.Prelude.{Result}
use Rattle.ps_queries.specs.declared.askers.Asker.{Asker}
use Rattle.ps_store.specs.Courses.{course_of}
use Rattle.ps_session.specs.declared.phases.Phase.TheVariants.{Start}
use Rattle.ps_session.specs.Kept.{state_of}
use Rattle.ps_session.specs.Sessions.{SessionState}
use Rattle.ps_streams.specs.Turning.{IsUnderWay}
use Rattle.ps_workers.specs.Sharing.{fixed_of}
use Rattle.ps_serve.specs.declared.ends.End.{End}
use Rattle.ps_serve.specs.Readers.{seen}
use Rattle.ps_serve.specs.Steps.{HasStepped}
use Rattle.ps_serve.proofs.Ending.{begun_on, ends_on, step_on, stepped_by}
use Rattle.ps_serve.proofs.Stepping.{goes_far, stays}
use Rattle.ps_serve.proofs.shared.stream_on.Goals as goal

pub turns-init : goal.turns-init
turns-init g c = record {
  goes_on = stays c.args.desk.now.lock.now c.args.reader c.requires.at_end;
  begun = c.requires.begun;
  asker = refl;
  way = c.requires.way;
  streamed = λ positions low front first it. it;
  faults = omega arith;
  number = refl;
}

pub step-next-requires : goal.step-next-requires
step-next-requires g c =
    let inv = c.turns.invariant in
    record {
      action = sym c.next_action-action.ensures.action;
      begun = inv.begun;
      at_end = inv.goes_on.at_end;
      way = (
        inv.way.0,
        subst (λ (a : Asker). IsUnderWay (course_of (fixed_of c.args.desk.now.lock.now).rules (seen c.turns.here) a) (length (seen c.turns.here)) inv.way.0 (state_of c.turns.stream.session))
            (sym inv.asker) inv.way.1,
      );
    }

pub returns-then-is_over : goal.returns-then-is_over
returns-then-is_over g c =
    let inv = c.turns.invariant in
    let over = c.is_over.ensures.0 c.if-is_over.true in
    record {
      goes_on = inv.goes_on;
      ends = λ positions low front first before less it. ((state_of c.turns.stream.session, inv.streamed positions low front first it, over.1), over.0);
      faults = inv.faults;
      number = inv.number;
    }

pub turns-preserved : goal.turns-preserved
turns-preserved g c =
    let inv = c.turns.invariant in
    let lock = c.args.desk.now.lock.now in
    let own = c.args.stream.now.session.asker in
    let here = c.turns.here in
    let next = c.step-next.result.0 in
    let may_give = g.C.Clock.may_give c.args.terms.now.clock.now in
    let exp = c.args.terms.now.exp in
    let s = state_of c.turns.stream.session in
    let s' = state_of c.step-next.new.stream.session in
    let served = c.turns.stream.served.items in
    let served' = c.step-next.new.stream.served.items in
    let between = g.K.Sink.taken c.turns.to in
    let new = g.K.Sink.taken c.step-next.new.to in
    let before = g.K.Sink.faults c.turns.to in
    let now = g.K.Sink.faults c.step-next.new.to in
    let stepped : HasStepped may_give exp lock here next own s s' served served' between new before now (Ok tt) =
    stepped_by may_give exp lock here next c.turns.stream.session.asker own s s' served served' between new before now c.step-next.result.1 (Ok tt) inv.asker c.in-Ok.is c.step-next.ensures.steps in
    let made = stepped.steps inv.way.0 inv.way.1 in
    record {
      goes_on = goes_far lock c.args.reader here next inv.goes_on stepped.goes_on;
      begun = subst (λ (x : SessionState). x.phase ≢ Start) (sym made.session_is) (begun_on (course_of (fixed_of lock).rules (seen next) own) (length (seen next)) s inv.begun);
      asker = c.step-next.ensures.asker ∙ inv.asker;
      way = (_, stepped.under_way inv.way.0 refl inv.way.1);
      streamed = λ positions low front first it.
          step_on c.places_are_fronts.ensures.stay c.places_are_fronts.ensures.whole c.runs_go_on.ensures.agree c.runs_go_on.ensures.on c.runs_go_on.ensures.climb may_give exp own positions low
          lock here next front first between new s s' served served' (inv.streamed positions low front first it) before now stepped;
      faults = omega (arith, c.step-next.ensures.faults, inv.faults);
      number = c.step-next.ensures.number ∙ inv.number;
    }

pub returns-in-Err : goal.returns-in-Err
returns-in-Err g c =
    let inv = c.turns.invariant in
    let lock = c.args.desk.now.lock.now in
    let own = c.args.stream.now.session.asker in
    let here = c.turns.here in
    let next = c.step-next.result.0 in
    let may_give = g.C.Clock.may_give c.args.terms.now.clock.now in
    let exp = c.args.terms.now.exp in
    let s = state_of c.turns.stream.session in
    let s' = state_of c.step-next.new.stream.session in
    let served = c.turns.stream.served.items in
    let served' = c.step-next.new.stream.served.items in
    let between = g.K.Sink.taken c.turns.to in
    let new = g.K.Sink.taken c.step-next.new.to in
    let before = g.K.Sink.faults c.turns.to in
    let now = g.K.Sink.faults c.step-next.new.to in
    let stepped : HasStepped may_give exp lock here next own s s' served served' between new before now (Err c.in-Err.end) =
    stepped_by may_give exp lock here next c.turns.stream.session.asker own s s' served served' between new before now c.step-next.result.1 (Err c.in-Err.end) inv.asker c.in-Err.is
    c.step-next.ensures.steps in
    record {
      goes_on = goes_far lock c.args.reader here next inv.goes_on stepped.goes_on;
      ends = λ positions low front first start less it.
          ends_on c.places_are_fronts.ensures.stay c.places_are_fronts.ensures.whole c.runs_go_on.ensures.agree c.runs_go_on.ensures.on c.runs_go_on.ensures.climb may_give exp own positions low
          lock here next front first between new s s' served served' (inv.streamed positions low front first it) c.args.terms.now.until_drained start before now c.in-Err.end
          (omega (arith, less, inv.faults)) stepped;
      faults = omega (arith, c.step-next.ensures.faults, inv.faults);
      number = c.step-next.ensures.number ∙ inv.number;
    }
