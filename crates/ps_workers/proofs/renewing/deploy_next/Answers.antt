use Rattle.ps_workers.specs.Sharing.{terms_of}
use Rattle.ps_workers.proofs.Renewed.{deploys_next}
use Rattle.ps_workers.proofs.renewing.deploy_next.Goals as goal

pub returns-clause-deploys : goal.returns-clause-deploys
returns-clause-deploys g c = λ batch.
    let turned = c.deploy_in_turn.ensures.turn in
    deploys_next (terms_of c.args.place.now.lock.now) c.ledgers_tell_ops.ensures.one turned.0 c.args.next batch c.args.seat c.deploy_in_turn.result.0 c.deploy_in_turn.result.1 turned.1
