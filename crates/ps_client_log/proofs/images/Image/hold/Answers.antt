use Rattle.ps_client_log.proofs.Holding.{held-insert}
use Rattle.ps_client_log.proofs.images.Image.hold.Goals as goal

pub returns : goal.returns
returns c = λ i. record {
  position = c.args.self.now.position.0;
  total = (c.add-self.ensures i).0;
  held = λ q. held-insert c.args.self.now.held c.insert.new.self c.args.held.key (record { id = c.args.held.id; content = c.args.held.content; sum = c.args.held.sum }) c.in_ok-insert.ensures.updates.0 q i;
}
