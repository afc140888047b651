use Rattle.std.proofs.Common.{length, subst, sym}
use Rattle.ps_store.specs.Courses.{course_of}
use Rattle.ps_session.specs.Kept.{state_of}
use Rattle.ps_session.specs.Sessions.{SessionState, requested_in}
use Rattle.service_cases.specs.Serving.{IsOver}
use Rattle.service_cases.proofs.turns.begin.Goals as goal

pub returns : goal.returns
returns c = λ store serving.
    subst (λ (s : SessionState). IsOver store c.begin.result.asker s) (sym c.begin.ensures.state)
    (record {
      fixed = serving.0;
      history = serving.1;
      serves = serving.2;
      taken = c.calls_make_turns.ensures.begins (course_of serving.0.rules serving.1 c.begin.result.asker) (length serving.1) (requested_in c.new.result);
    })
