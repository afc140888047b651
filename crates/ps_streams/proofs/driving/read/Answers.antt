use Rattle.std.proofs.Common.{◌++◌, refl, ap, ◌∙◌}
use Rattle.std.proofs.lemmas.Result.{err_from_is_err_and}
use Rattle.ps_session.specs.Kept.{state_of}
use Rattle.ps_session.specs.Sessions.{next_action}
use Rattle.ps_streams.proofs.Reading.{read_is_at, read_is_reading}
use Rattle.ps_streams.proofs.Turned.{outcome_writable, read_something, read_turned, read_writes, under_way_later}
use Rattle.ps_streams.proofs.driving.read.Goals as goal

pub bucket_at-requires : goal.bucket_at-requires
bucket_at-requires g c = read_is_at (next_action (state_of c.args.session.now)) c.args.place c.args.after c.args.upto c.requires.action

pub read-requires-clause-action : goal.read-requires-clause-action
read-requires-clause-action g c = read_is_reading (next_action (state_of c.args.session.now)) c.args.place c.args.after c.args.upto c.requires.action

pub returns-in_err-batch-clause-turns : goal.returns-in_err-batch-clause-turns
returns-in_err-batch-clause-turns g c =
    let p = err_from_is_err_and c.from_residual.result c.from_residual.ensures.1 in
    rw (p.1, p.2) (λ fixed history at stands way.
    let e = c.in_err-batch.ensures fixed history stands in
    record { more = e.0; came = e.1; there = e.2; turns = refl })

pub read-requires-clause-something : goal.read-requires-clause-something
read-requires-clause-something g c =
    let r = c.requires.here in
    let e = c.in_ok-batch.ensures r.0 r.1 r.3 in
    let asker = c.args.session.now.asker in
    let session = state_of c.args.session.now in
    read_something r.0 (r.1 ++ e.0) asker r.2 session (g.met.R.Readings.valid c.read_batch.new.self r.0 (r.1 ++ e.0) e.2)
    (under_way_later c.places_are_fronts.ensures.stay r.0 r.1 e.0 asker r.2 session r.4) c.args.place c.args.after c.args.upto c.bucket_at.result.now c.in_ok-batch.batch
    c.requires.action c.bucket_at.ensures e.3 c.calls_make_turns.ensures.reads c.places_are_fronts.ensures.whole c.calls_make_turns.ensures.something c.courses_are_lawful.ensures

pub returns-in_err-line-clause-turns : goal.returns-in_err-line-clause-turns
returns-in_err-line-clause-turns g c =
    let p = err_from_is_err_and c.from_residual-in_err-line.result c.from_residual-in_err-line.ensures.1 in
    rw (p.1, p.2) (λ fixed history at stands way.
    let e = c.in_ok-batch.ensures fixed history stands in
    record { more = e.0; came = e.1; there = e.2; turns = ap state_of c.in_err-line.ensures.err })

pub returns-clause-turns : goal.returns-clause-turns
returns-clause-turns g c = λ fixed history at stands way.
    let e = c.in_ok-batch.ensures fixed history stands in
    let asker = c.args.session.now.asker in
    let session = state_of c.args.session.now in
    record {
      more = e.0;
      came = e.1;
      there = e.2;
      turns = read_turned fixed (history ++ e.0) asker at session (g.met.R.Readings.valid c.read_batch.new.self fixed (history ++ e.0) e.2)
          (under_way_later c.places_are_fronts.ensures.stay fixed history e.0 asker at session way) c.args.place c.args.after c.args.upto c.bucket_at.result.now c.in_ok-batch.batch
          c.requires.action c.bucket_at.ensures e.3 c.calls_make_turns.ensures.reads c.places_are_fronts.ensures.whole c.calls_make_turns.ensures.keeps
          (state_of c.read.new.self) c.in_ok-line.line c.outcome_of.result c.in_ok-line.ensures.state c.in_ok-line.ensures.line c.outcome_of.ensures;
    }

pub returns-clause-writable : goal.returns-clause-writable
returns-clause-writable g c =
    let r = c.requires.here in
    let e = c.in_ok-batch.ensures r.0 r.1 r.3 in
    let asker = c.args.session.now.asker in
    let session = state_of c.args.session.now in
    outcome_writable c.in_ok-line.line c.in_ok-batch.batch.passed c.outcome_of.result c.outcome_of.ensures
    (read_writes r.0 (r.1 ++ e.0) asker r.2 session (g.met.R.Readings.valid c.read_batch.new.self r.0 (r.1 ++ e.0) e.2)
    (under_way_later c.places_are_fronts.ensures.stay r.0 r.1 e.0 asker r.2 session r.4) c.args.place c.args.after c.args.upto c.bucket_at.result.now c.in_ok-batch.batch
    c.requires.action c.bucket_at.ensures e.3 c.calls_make_turns.ensures.reads c.places_are_fronts.ensures.whole
    c.calls_make_turns.ensures.writable c.courses_are_lawful.ensures c.in_ok-line.line c.in_ok-line.ensures.line)
