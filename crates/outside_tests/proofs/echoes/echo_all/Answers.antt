use Rattle.std.proofs.Common.{◌∙◌}
use Rattle.outside_tests.proofs.Closing.{echoed_more}
use Rattle.outside_tests.proofs.echoes.echo_all.Goals as goal

pub connections-preserved : goal.connections-preserved
connections-preserved g c =
    let D = g.D.Doors in
    let before = c.args.doors.now in
    let mid = c.connections.doors in
    let after = c.echo_one.new.doors in record {
      place = c.echo_one.ensures.place ∙ c.connections.invariant.place;
      echoed = λ closed was.
          echoed_more (D.opened before) (D.opened mid) (D.opened after) closed (D.closed mid) (D.closed after) (c.connections.invariant.echoed closed was) (λ between is. c.echo_one.ensures.echoed between is);
    }

pub returns-then-not-echo_one-clause-echoed : goal.returns-then-not-echo_one-clause-echoed
returns-then-not-echo_one-clause-echoed g c = λ closed was.
    let D = g.D.Doors in
    let before = c.args.doors.now in
    let mid = c.connections.doors in
    let after = c.echo_one.new.doors in
    echoed_more (D.opened before) (D.opened mid) (D.opened after) closed (D.closed mid) (D.closed after) (c.connections.invariant.echoed closed was) (λ between is. c.echo_one.ensures.echoed between is)
