use Rattle.std.proofs.Common.{length}
use Rattle.ps_session.specs.Kept.{state_of}
use Rattle.ps_serve.specs.Turning.{course_for}
use Rattle.ps_serve.proofs.Readings.{takes_first, untaken}
use Rattle.ps_serve.proofs.streams.take.Goals as goal

pub turn-requires : goal.turn-requires
turn-requires c =
    let r = c.requires.serves in
    (r.0, r.1, r.2, untaken (course_for r.0 r.1 c.args.session.now) (length r.1) (state_of c.args.session.now) c.requires.start)

pub returns-clause-takes : goal.returns-clause-takes
returns-clause-takes c = λ fixed history serves.
    takes_first fixed history c.args.session.now.asker (state_of c.args.session.now) (state_of c.turn.new.session) c.places_are_fronts.ensures.whole c.requires.start c.turn.result
    (c.turn.ensures.turns fixed history serves (untaken (course_for fixed history c.args.session.now) (length history) (state_of c.args.session.now) c.requires.start))
