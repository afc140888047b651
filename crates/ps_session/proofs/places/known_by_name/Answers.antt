use Rattle.ps_session.specs.Sessions.{known_in}
use Rattle.ps_session.proofs.Seats.{known_next}
use Rattle.ps_session.proofs.places.known_by_name.Goals as goal

pub known-preserved : goal.known-preserved
known-preserved c = λ name.
    known_next c.args.known.now c.known.one-index c.one-item.result c.in_ok-copy.field-0 c.known.map c.insert.new.self (known_in c.args.known.now name) name c.known-test.true c.one-item.is
    c.in_ok-copy.ensures (c.in_ok-insert.ensures.updates.0 name) (c.known.invariant name)
