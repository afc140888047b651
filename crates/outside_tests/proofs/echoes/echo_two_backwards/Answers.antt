use Rattle.std.proofs.Common.{◌≡◌, ℕ, ◌+◌, ◌∙◌, Some, subst}
use Rattle.ps_doors.specs.Connections.{connection_of, IsFresh}
use Rattle.outside_tests.specs.Echoes.{IsEcho}
use Rattle.outside_tests.proofs.Closing.{echoed_backwards}
use Rattle.outside_tests.proofs.echoes.echo_two_backwards.Goals as goal

pub returns-clause-echoed : goal.returns-clause-echoed
returns-clause-echoed g c = λ closed was yes.
    let D = g.D.Doors in
    let S = g.D.In.Source in
    let K = g.D.Out.Sink in
    let n = D.opened c.args.doors.now in
    let m = D.opened c.next.new.self in
    let new : IsFresh S K (D.closed c.args.doors.now) n c.in-Ok-Some.from c.in-Ok-Some.to = rw c.in-Ok-Some.field-0-is at c.in-Ok-Some.ensures.fresh in
    let told : IsFresh S K (Some closed) n c.in-Ok-Some.from c.in-Ok-Some.to = rw was at new in
    let one = c.echo.ensures.echo n told.1 in
    let opened : m ≡ n + 1 = rw c.in-Ok-Some.field-0-is at c.in-Ok-Some.ensures.opened in
    let still : D.closed c.next.new.self ≡ Some closed = c.next.ensures.closed ∙ was in
    let newer : IsFresh S K (D.closed c.next.new.self) m c.in-Ok-Some-next.from c.in-Ok-Some-next.to = rw c.in-Ok-Some-next.field-0-is at c.in-Ok-Some-next.ensures.fresh in
    let told_newer : IsFresh S K (Some closed) m c.in-Ok-Some-next.from c.in-Ok-Some-next.to = rw still at newer in
    let other = c.echo-2.ensures.echo m told_newer.1 in
    let P : ℕ → Type 0 = λ k. IsEcho k other.0 in
    echoed_backwards n closed (D.closed c.next-2.new.self) (D.closed c.close-2.new.self) (D.closed c.close-3.new.self) (connection_of S K c.echo-2.new.from c.echo-2.new.to) (connection_of S K c.echo.new.from c.echo.new.to) other.0 one.0
    (c.next-2.ensures.closed ∙ still) c.close-2.ensures.closed c.close-3.ensures.closed other.1 one.1 one.2 (subst P opened other.2)
