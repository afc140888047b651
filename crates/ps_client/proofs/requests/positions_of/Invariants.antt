use Rattle.std.proofs.Common.{◌≡◌, ◌++◌, map}
use Rattle.ps_client_log.specs.Logs.{kept}
use Rattle.ps_client.specs.Requests.{known_at}
use Rattle.ps_client.proofs.requests.positions_of.Given as goal

-- those that are left come behind
abbrev pub invariant-names : goal.invariant-names
invariant-names g l = l.positions ++ map (known_at (kept l.log)) l.bucket-iterator.rest.items ≡ map (known_at (kept l.log)) l.fn.names.items
