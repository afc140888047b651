use Rattle.ps_client.specs.States.{state}
use Rattle.ps_syncing.proofs.Ending.{RunsSo-made}
use Rattle.ps_syncing.proofs.syncing.run.Goals as goal

pub returns-in-Ok-open_hashed-clause-runs : goal.returns-in-Ok-open_hashed-clause-runs
returns-in-Ok-open_hashed-clause-runs g c =
    let text = c.sync_client-text in
    RunsSo-made c.args.prepared.service c.args.prepared.changes (g.P.Keeper.held c.args.keeper) (g.L.Link.closed c.args.link.now) (g.L.Link.closed text.new.link)
    (state c.in-Ok-open_hashed.client) (state text.new.client) text.result c.in-Ok-open_hashed.ensures.kept text.ensures.synced text.ensures.prints text.ensures.fails
