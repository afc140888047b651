use Rattle.std.proofs.Common.{drop}
use Rattle.ps_client_log.specs.Rows.{AreInOrder}
use Rattle.ps_client.proofs.showing.are_in_order.Given as goal

-- those from the place on are in order
abbrev pub invariant-places : goal.invariant-places
invariant-places l = AreInOrder (drop l.place l.rows)
