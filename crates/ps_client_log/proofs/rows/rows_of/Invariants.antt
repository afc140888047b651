use Rattle.std.proofs.Common.{◌≡◌, ◌++◌, map}
use Rattle.ps_client_log.specs.Lending.{row_noted}
use Rattle.ps_client_log.specs.Rows.{by_object}
use Rattle.ps_client_log.proofs.rows.rows_of.Given as goal

-- those that are left come behind
abbrev pub invariant-rows : goal.invariant-rows
invariant-rows l = by_object l.rows.items ++ map row_noted l.kind-iterator ≡ map row_noted l.fn.latest.entries
