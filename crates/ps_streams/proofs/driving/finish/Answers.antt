use Rattle.std.proofs.Common.{Some, None}
use Rattle.ps_session.specs.Kept.{state_of}
use Rattle.ps_streams.proofs.Turned.{end_turned, end_writes, outcome_writable}
use Rattle.ps_streams.proofs.driving.finish.Goals as goal

pub returns-clause-turns : goal.returns-clause-turns
returns-clause-turns c = λ fixed history at valid way.
    end_turned fixed history c.args.session.now.asker at (state_of c.args.session.now) valid way
    c.calls_make_turns.ensures.keeps c.calls_make_turns.ensures.finishes c.requires.action
    (state_of c.finish-line.new.self) c.finish-line.result c.outcome_of.result c.finish-line.ensures.state c.finish-line.ensures.line c.outcome_of.ensures

pub returns-clause-writable : goal.returns-clause-writable
returns-clause-writable c =
    let r = c.requires.here in
    outcome_writable (Some c.finish-line.result) None c.outcome_of.result c.outcome_of.ensures
    (end_writes r.0 r.1 c.args.session.now.asker r.2 (state_of c.args.session.now) r.3 r.4 c.requires.action c.calls_make_turns.ensures.finishes
    c.calls_make_turns.ensures.writable c.courses_are_lawful.ensures (Some c.finish-line.result) c.finish-line.ensures.line)
