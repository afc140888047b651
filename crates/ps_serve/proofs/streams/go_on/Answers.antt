use Rattle.std.proofs.Common.{◌≡◌, [], sym, refl, ◌∙◌, arith}
use Rattle.ps_session.specs.declared.phases.Phase.TheVariants.{Download}
use Rattle.ps_session.specs.Kept.{state_of}
use Rattle.ps_serve.proofs.Falling.{downloading}
use Rattle.ps_serve.specs.Turning.{turn_for}
use Rattle.ps_serve.proofs.Running.{completes, takes_once}
use Rattle.ps_serve.proofs.Streaming.{goes_on, here_for, taken_next, streamed_next, ends_next}
use Rattle.ps_serve.proofs.streams.go_on.Goals as goal

pub returns-in-Wait-clause-streams : goal.returns-in-Wait-clause-streams
returns-in-Wait-clause-streams g c = λ fixed history positions done serves streaming.
    completes (g.C.Clock.may_give c.args.clock.now) c.args.exp fixed history c.args.session.now.asker positions [] done
    (g.K.Sink.taken c.args.to.now) (g.K.Sink.taken c.turns.to) (g.K.Sink.faults c.args.to.now) (g.K.Sink.faults c.turns.to) (state_of c.turns.session) c.ending.result
    (c.in-Wait.ensures.wait.0 refl) (c.turns.invariant.streamed fixed history positions done serves streaming) c.ending.ensures.ends

pub make_turn-requires : goal.make_turn-requires
make_turn-requires g c =
    let r = c.requires.here in
    record {
      action = sym c.next_action.ensures.action;
      goes = c.in_default.not-Wait;
      here = (r.0, r.1, r.2, here_for r.0 r.1 c.turns.session c.args.session.now.asker c.turns.invariant.asker (c.turns.invariant.here r.0 r.1 r.2 r.3));
    }

pub turns-smaller : goal.turns-smaller
turns-smaller g c =
    let r = c.requires.here in
    let here = here_for r.0 r.1 c.turns.session c.args.session.now.asker c.turns.invariant.asker (c.turns.invariant.here r.0 r.1 r.2 r.3) in
    let phase : (state_of c.turns.session).phase ≡ Download = downloading (state_of c.turns.session) c.turns.invariant.sending (λ over. c.in_default.not-Wait (c.next_action.ensures.wait.1 over)) in
    (goes_on c.calls_make_turns.ensures.falls c.courses_are_lawful.ensures r.0 c.args.store.now r.1 c.turns.session c.make_turn.new.session r.2 here phase (c.in-Ok.ensures.state r.0 r.1 r.2 here)).falls

pub turns-preserved : goal.turns-preserved
turns-preserved g c =
    let r = c.requires.here in
    let own = c.args.session.now.asker in
    let same = c.turns.invariant.asker in
    let phase : (state_of c.turns.session).phase ≡ Download = downloading (state_of c.turns.session) c.turns.invariant.sending (λ over. c.in_default.not-Wait (c.next_action.ensures.wait.1 over)) in
    let here = here_for r.0 r.1 c.turns.session own same (c.turns.invariant.here r.0 r.1 r.2 r.3) in
    record {
      sending = (goes_on c.calls_make_turns.ensures.falls c.courses_are_lawful.ensures r.0 c.args.store.now r.1 c.turns.session c.make_turn.new.session r.2 here phase (c.in-Ok.ensures.state r.0 r.1 r.2 here)).sending;
      asker = c.make_turn.ensures.asker ∙ same;
      here = λ fixed history serves is_here.
          let taken = c.turns.invariant.here fixed history serves is_here in
          taken_next fixed history c.turns.session own same c.make_turn.new.session (c.in-Ok.ensures.state fixed history serves (here_for fixed history c.turns.session own same taken))
          c.calls_make_turns.ensures.keeps taken;
      streamed = λ fixed history positions done serves streaming.
          let there = here_for fixed history c.turns.session own same (c.turns.invariant.here fixed history serves streaming.taken) in
          streamed_next fixed history c.turns.session own same c.make_turn.new.session (c.in-Ok.ensures.state fixed history serves there)
          c.runs_go_on.ensures.on c.runs_go_on.ensures.climb positions done (g.K.Sink.taken c.args.to.now) (g.K.Sink.taken c.turns.to) (g.K.Sink.taken c.make_turn.new.to) phase
          (c.turns.invariant.streamed fixed history positions done serves streaming) (c.in-Ok.ensures.sends fixed history serves there);
      faults = omega (arith, c.make_turn.ensures.faults, c.turns.invariant.faults);
      number = c.make_turn.ensures.number ∙ c.turns.invariant.number;
    }

pub returns-in-Err : goal.returns-in-Err
returns-in-Err g c =
    let r = c.requires.here in
    let own = c.args.session.now.asker in
    let same = c.turns.invariant.asker in
    let here = here_for r.0 r.1 c.turns.session own same (c.turns.invariant.here r.0 r.1 r.2 r.3) in
    let phase : (state_of c.turns.session).phase ≡ Download = downloading (state_of c.turns.session) c.turns.invariant.sending (λ over. c.in_default.not-Wait (c.next_action.ensures.wait.1 over)) in
    record {
      streams = λ fixed history positions done serves streaming.
          let taken = c.turns.invariant.here fixed history serves streaming.taken in
          let there = here_for fixed history c.turns.session own same taken in
          ends_next fixed history c.turns.session own same c.runs_go_on.ensures.on c.runs_go_on.ensures.climb c.calls_make_turns.ensures.falls c.courses_are_lawful.ensures (g.C.Clock.may_give c.args.clock.now) c.args.exp positions done
          (g.K.Sink.taken c.args.to.now) (g.K.Sink.taken c.turns.to) (g.K.Sink.taken c.make_turn.new.to) (g.K.Sink.faults c.args.to.now) (g.K.Sink.faults c.turns.to) (g.K.Sink.faults c.make_turn.new.to) c.args.store.now c.next_action.result c.in-Err.end
          c.turns.invariant.faults serves taken phase (sym c.next_action.ensures.action) (c.turns.invariant.streamed fixed history positions done serves streaming) (c.in-Err.ensures.sends fixed history serves there);
      once = takes_once (g.C.Clock.may_give c.args.clock.now) c.args.exp r.0 r.1 c.turns.session.asker (turn_for r.0 r.1 c.turns.session).line
          (g.K.Sink.taken c.turns.to) (g.K.Sink.taken c.make_turn.new.to) (g.K.Sink.faults c.turns.to) (g.K.Sink.faults c.make_turn.new.to)
          (state_of c.turns.session) c.next_action.result c.in-Err.end phase (sym c.next_action.ensures.action) (c.in-Err.ensures.sends r.0 r.1 r.2 here);
      faults = omega (arith, c.make_turn.ensures.faults, c.turns.invariant.faults);
      number = c.make_turn.ensures.number ∙ c.turns.invariant.number;
    }
