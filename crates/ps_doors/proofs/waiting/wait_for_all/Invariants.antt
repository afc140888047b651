use Rattle.std.proofs.Common.{◌≡◌, ◌++◌}
use Rattle.ps_doors.specs.Memory.{peers_of}
use Rattle.ps_doors.proofs.waiting.wait_for_all.Given as goal

-- those that wait, and the peers that are left
abbrev pub invariant-peers : goal.invariant-peers
invariant-peers l = peers_of l.all.items ++ l.peer-iterator.rest.items ≡ l.fn.peers
