use Rattle.std.proofs.Common.{◌≡◌, List, ℕ, [], ◌++◌, None, length, inr, refl, ap, subst, ◌∙◌}
use Rattle.ps_io.specs.Contents.{Gains, GainsFront}
use Rattle.ps_queries.specs.declared.askers.Asker.{Asker}
use Rattle.ps_session.specs.Kept.{state_of}
use Rattle.ps_serve.specs.Answers.{head_text}
use Rattle.ps_serve.specs.Runs.{StreamsOn, list_of, lines_text}
use Rattle.ps_serve.specs.Turning.{course_for, turn_for}
use Rattle.ps_serve.proofs.Readings.{untaken}
use Rattle.ps_serve.proofs.Running.{ends_behind}
use Rattle.ps_serve.proofs.Streaming.{here_for, taken_next, streams_first, first_sends, gone_first}
use Rattle.ps_serve.proofs.streams.stream_from.Goals as goal

pub go_on-requires-clause-here : goal.go_on-requires-clause-here
go_on-requires-clause-here g c =
    let r = c.requires.serves in
    let session = c.args.session.now in (
      r.0,
      r.1,
      r.2,
      here_for r.0 r.1 c.first_line.new.session session.asker c.first_line.ensures.asker
          (taken_next r.0 r.1 session session.asker refl c.first_line.new.session (c.in-Ok.ensures.begins r.0 r.1 r.2).0 c.calls_make_turns.ensures.keeps
          (untaken (course_for r.0 r.1 session) (length r.1) (state_of session) c.requires.start)),
    )

pub returns-in-Ok-write-clause-streams : goal.returns-in-Ok-write-clause-streams
returns-in-Ok-write-clause-streams g c = λ fixed history positions serves begins_is.
    let session = c.args.session.now in
    let begun = c.in-Ok.ensures.begins fixed history serves in
    let done = list_of (turn_for fixed history session).line in
    let old = g.K.Sink.taken c.args.to.now in
    let between = g.K.Sink.taken c.write.new.self in
    let new = g.K.Sink.taken c.go_on.new.to in
    let bytes_is : c.as_slice-2.result.now ≡ head_text 200 None ++ lines_text done =
    c.as_slice-2.ensures.value ∙ c.in-Ok-opening.ensures ∙ ap (λ (line : List ℕ). head_text 200 None ++ line) (c.as_slice.ensures.value ∙ begun.1) in
    let gains : Gains old between (head_text 200 None ++ lines_text done) = subst (λ (bytes : List ℕ). Gains old between bytes) bytes_is c.in-Ok-write.ensures.ok in
    let streaming = streams_first c.runs_go_on.ensures.on c.runs_go_on.ensures.climb c.places_are_fronts.ensures.whole fixed history positions session begins_is begun.2
    c.calls_make_turns.ensures.keeps c.first_line.new.session c.first_line.ensures.asker begun.0 in
    let goes : StreamsOn (g.C.Clock.may_give c.args.clock.now) c.args.exp fixed history session.asker positions [] done between new (g.K.Sink.faults c.write.new.self) (g.K.Sink.faults c.go_on.new.to) c.go_on.result =
    subst (λ (asker : Asker). StreamsOn (g.C.Clock.may_give c.args.clock.now) c.args.exp fixed history asker positions [] done between new (g.K.Sink.faults c.write.new.self) (g.K.Sink.faults c.go_on.new.to) c.go_on.result)
    c.first_line.ensures.asker (c.go_on.ensures.streams fixed history positions done serves streaming) in
    inr (inr (
      refl,
      begun.3,
      c.go_on.ensures.once,
      ends_behind (g.C.Clock.may_give c.args.clock.now) c.args.exp fixed history session.asker positions (head_text 200 None) done old between new
          (g.K.Sink.faults c.args.to.now) (g.K.Sink.faults c.write.new.self) (g.K.Sink.faults c.go_on.new.to) c.write.ensures.faults gains c.go_on.result goes,
    ))

pub returns-clause-streams : goal.returns-clause-streams
returns-clause-streams g c = λ fixed history positions serves begins_is.
    let session = c.args.session.now in
    let begun = c.in-Ok.ensures.begins fixed history serves in
    let done = list_of (turn_for fixed history session).line in
    let old = g.K.Sink.taken c.args.to.now in
    let new = g.K.Sink.taken c.write.new.self in
    let bytes_is : c.as_slice-2.result.now ≡ head_text 200 None ++ lines_text done =
    c.as_slice-2.ensures.value ∙ c.in-Ok-opening.ensures ∙ ap (λ (line : List ℕ). head_text 200 None ++ line) (c.as_slice.ensures.value ∙ begun.1) in
    let gains : GainsFront old new (head_text 200 None ++ lines_text done) = subst (λ (bytes : List ℕ). GainsFront old new bytes) bytes_is c.in-Err-write.ensures.err in
    inr (inr (
      refl,
      begun.3,
      tt,
      (
        (
          (turn_for fixed history session).session,
          gone_first c.runs_go_on.ensures.on c.runs_go_on.ensures.climb c.places_are_fronts.ensures.whole fixed history positions session begins_is begun.2 (head_text 200 None) old new gains,
          first_sends c.runs_go_on.ensures.on c.runs_go_on.ensures.climb c.places_are_fronts.ensures.whole fixed history positions session begins_is begun.2,
        ),
        c.in-Err-write.ensures.failed,
      ),
    ))
