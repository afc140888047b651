use Rattle.std.proofs.Common.{◌≡◌, ◌++◌}
use Rattle.ps_client_log.proofs.rows.listed_names.Given as goal

-- those that are left come behind
abbrev pub invariant-names : goal.invariant-names
invariant-names l = l.names.items ++ l.name-iterator ≡ l.fn.found.keys
