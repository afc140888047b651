use Rattle.std.proofs.Common.{◌≡◌, ◌++◌}
use Rattle.ps_store.proofs.Counting.{names_at}
use Rattle.ps_store.proofs.logs.Logs.names.Given as goal

-- with those of the logs that are left, all names are there
abbrev pub invariant-logs : goal.invariant-logs
invariant-logs l = l.names ++ names_at l.upto.0 l.name-iterator ≡ names_at l.upto.0 l.self.logs.entries
