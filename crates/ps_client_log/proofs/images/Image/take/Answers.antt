use Rattle.ps_client_log.proofs.Holding.{held-insert, held-remove}
use Rattle.ps_client_log.proofs.Outcomes.{on_ok}
use Rattle.ps_client_log.proofs.images.Image.take.Goals as goal

pub returns-in-Put-clause-image : goal.returns-in-Put-clause-image
returns-in-Put-clause-image c =
    let updates = on_ok c.insert-old.result c.insert-old.ensures.updates (c.insert-old.ensures.succeeds c.requires) in
    rw c.in-Put.is
    (λ i. record {
      position = c.in-Put.id.0;
      total = (c.add-self.ensures i).0;
      held = λ q. held-insert c.args.self.now.held c.insert-old.new.self c.in-Put.key (record { id = c.in-Put.id; content = c.in-Put.content; sum = c.in-Put.sum }) updates.0 q i;
    })

pub returns-in-Remove-clause-image : goal.returns-in-Remove-clause-image
returns-in-Remove-clause-image c =
    rw c.in-Remove.is
    (λ i. record {
      position = c.in-Remove.id.0;
      total = (c.add-self-in-Remove.ensures i).0;
      held = λ q. held-remove c.args.self.now.held c.swap_remove-old.new.self c.in-Remove.key c.in-Remove.id c.in-Remove.sum c.swap_remove-old.ensures.updates.0 q i;
    })
