use Rattle.ps_syncing.proofs.exchanges.begin.Goals as goal

pub returns-in-Ok-clause-begins : goal.returns-in-Ok-clause-begins
returns-in-Ok-clause-begins g c = c.take_head.ensures.begins c.args.request.now
