use Rattle.std.proofs.Common.{length, ◌∙◌}
use Rattle.std.proofs.lemmas.Result.{err_from_is_err_and}
use Rattle.ps_session.specs.Kept.{state_of}
use Rattle.ps_serve.proofs.Readings.{made, not_made, under_way_here}
use Rattle.ps_serve.proofs.streams.turn.Goals as goal

pub take_turn_of-requires : goal.take_turn_of-requires
take_turn_of-requires c =
    let r = c.requires in
    (r.0, r.1, length r.1, r.2, under_way_here r.0 r.1 c.args.session.now r.3)

pub returns-in_err-outcome-clause-turns : goal.returns-in_err-outcome-clause-turns
returns-in_err-outcome-clause-turns c =
    let p = err_from_is_err_and c.from_residual.result c.from_residual.ensures.1 in
    rw (p.1, p.2) (λ fixed history serves here.
    not_made fixed history c.args.session.now.asker (state_of c.args.session.now) (state_of c.take_turn_of.new.session) c.in_err-outcome.field-0.0
    (c.in_err-outcome.ensures.turns fixed history (length history) serves (under_way_here fixed history c.args.session.now here)))

pub returns-clause-turns : goal.returns-clause-turns
returns-clause-turns c = λ fixed history serves here.
    made fixed history c.args.session.now.asker (state_of c.args.session.now) (state_of c.take_turn_of.new.session) c.in_ok-outcome.outcome c.into_line.result
    (c.in_ok-outcome.ensures.turns fixed history (length history) serves (under_way_here fixed history c.args.session.now here)) c.into_line.ensures.line
