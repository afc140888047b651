use Rattle.ps_client.specs.States.{state}
use Rattle.ps_syncing.proofs.Flows.{Streams-begun}
use Rattle.ps_syncing.proofs.streams.watch.Goals as goal

pub returns-in-Ok-clause-streams : goal.returns-in-Ok-clause-streams
returns-in-Ok-clause-streams g c = c.follow.ensures.streams (g.S.Source.input c.args.from.now) c.args.request.now c.in-Ok.ensures.begins

pub returns-in-Err-clause-streams : goal.returns-in-Err-clause-streams
returns-in-Err-clause-streams g c =
    Streams-begun (g.S.Source.input c.args.from.now) (g.S.Source.input c.begin.new.from) c.args.request.now (state c.args.client.now) (state c.args.client.now)
    c.in-Err.fault c.in-Err.ensures.begins
