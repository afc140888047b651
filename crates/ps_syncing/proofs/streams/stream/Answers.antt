use Rattle.std.proofs.Common.{List, ℕ, subst}
use Rattle.ps_client.specs.Clients.{PlainClient, asked}
use Rattle.ps_client.specs.States.{state}
use Rattle.ps_syncing.specs.Exchanges.{ClosesOne}
use Rattle.ps_syncing.specs.Streams.{ClosesStream, Streams}
use Rattle.ps_syncing.proofs.Flows.{Streams-known}
use Rattle.ps_syncing.proofs.streams.stream.Goals as goal

pub returns-in-Ok-clause-streams : goal.returns-in-Ok-clause-streams
returns-in-Ok-clause-streams g c =
    let old = g.L.Link.closed c.args.link.now in
    let new = g.L.Link.closed c.watch_once.new.link in
    let service = c.args.service.now in
    let was = state c.args.client.now in
    let is = state c.watch_once.new.client in
    let request = c.in-Ok.request.items in
    let said = subst (λ (v : PlainClient). Streams (ClosesOne old new request) v is c.watch_once.result) c.in-Ok.ensures.asked
    (subst (λ (v : List ℕ). Streams (ClosesOne old new v) (state c.request_of.new.client) is c.watch_once.result) c.as_slice.ensures.value c.watch_once.ensures.streams) in
    Streams-known (Unit {0}) (ClosesOne old new request) (ClosesStream service was old new)
    (λ took Holds one. record { request = request; asks = c.in-Ok.ensures.request; closed = one }) (asked was) is c.watch_once.result (λ other. tt) said
