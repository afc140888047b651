use Rattle.std.proofs.Common.{sym, ◌∙◌}
use Rattle.ps_session.specs.Kept.{state_of}
use Rattle.ps_session.specs.Sessions.{next_action}
use Rattle.ps_streams.proofs.Turned.{stood_still}
use Rattle.ps_streams.proofs.driving.take_turn.Goals as goal

pub finish-requires-clause-here : goal.finish-requires-clause-here
finish-requires-clause-here g c =
    let r = c.requires in
    (r.0, r.1, r.2, g.met.R.Readings.valid c.args.readings.now r.0 r.1 r.3, r.4)

pub returns-in-Complete-clause-turns : goal.returns-in-Complete-clause-turns
returns-in-Complete-clause-turns g c = λ fixed history at stands way.
    stood_still (g.R.Readings.may_come c.args.readings.now) (g.R.Readings.stands c.args.readings.now fixed) fixed history c.args.session.now.asker at
    (state_of c.args.session.now) (state_of c.finish.new.session) c.finish.result (g.met.R.Readings.may_stay c.args.readings.now) stands (c.finish.ensures.turns fixed history at (g.met.R.Readings.valid c.args.readings.now fixed history stands) way)
