use Rattle.std.proofs.Common.{◌∙◌, ap, subst, sym}
use Rattle.ps_io.specs.Contents.{Gains}
use Rattle.ps_doors.specs.Connections.{with_closed, connection_of}
use Rattle.ps_client.specs.States.{state}
use Rattle.ps_syncing.specs.Exchanges.{ClosesOne, Sees}
use Rattle.ps_syncing.specs.Streams.{Streams}
use Rattle.ps_syncing.proofs.Closing.{ClosesOne-seen}
use Rattle.ps_syncing.proofs.Flows.{Streams-known}
use Rattle.ps_syncing.proofs.Hearing.{hears_end}
use Rattle.ps_syncing.proofs.streams.watch_once.Goals as goal

pub returns-in-Ok-clause-streams : goal.returns-in-Ok-clause-streams
returns-in-Ok-clause-streams g c =
    let S = g.L.In.Source in
    let K = g.L.Out.Sink in
    let old = g.L.Link.closed c.args.link.now in
    let from = c.watch-ended.new.from in
    let to = c.watch-ended.new.to in
    let request = c.args.request.now in
    let was = state c.args.client.now in
    let is = state c.watch-ended.new.client in
    subst (λ v. Streams (ClosesOne old v request) was is c.watch-ended.result)
    (sym (c.close.ensures.closed ∙ ap (λ v. with_closed v (connection_of S K from to)) c.in-Ok.ensures.closed))
    (Streams-known (Gains (K.taken c.in-Ok.to) (K.taken to) request) (Sees (S.input c.in-Ok.from) (S.input from) request)
    (ClosesOne old (with_closed old (connection_of S K from to)) request)
    (λ gains Holds seen. ClosesOne-seen Holds old (S.number c.in-Ok.from) (S.faults c.in-Ok.from) (K.faults c.in-Ok.to) (S.number from) (S.faults from) (K.faults to)
    (S.input c.in-Ok.from) (S.input from) (K.taken c.in-Ok.to) (K.taken to) request c.in-Ok.ensures.fresh c.watch-ended.ensures.told gains seen)
    was is c.watch-ended.result c.watch-ended.ensures.took c.watch-ended.ensures.streams)

pub returns-in-Ok-clause-heard : goal.returns-in-Ok-clause-heard
returns-in-Ok-clause-heard g c = hears_end c.args.meter.now c.watch-ended.new.meter c.end.new.self c.watch-ended.ensures.heard c.end.ensures
