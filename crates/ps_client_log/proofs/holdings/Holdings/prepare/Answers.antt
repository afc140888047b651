use Rattle.std.proofs.Common.{arith}
use Rattle.ps_client_log.proofs.Making.{pushes-length}
use Rattle.ps_client_log.proofs.holdings.Holdings.prepare.Goals as goal

pub returns-in-Ok-clause-room : goal.returns-in-Ok-clause-room
returns-in-Ok-clause-room c = record {
  entries = λ name. omega (arith, c.in-Ok.ensures.entries name, c.in_ok-rooms.ensures name);
  queue = omega (arith, c.in-Ok.ensures.queue, pushes-length c.args.edits.now);
}
