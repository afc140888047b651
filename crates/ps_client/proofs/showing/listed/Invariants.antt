use Rattle.std.proofs.Common.{◌≡◌, ◌++◌, map}
use Rattle.ps_client_log.specs.Rows.{by_object}
use Rattle.ps_client.specs.Listing.{row_at_entry}
use Rattle.ps_client.proofs.showing.listed.Given as goal

-- those that are left come behind
abbrev pub invariant-rows : goal.invariant-rows
invariant-rows l = by_object l.rows.items ++ map row_at_entry l.kind-iterator ≡ map row_at_entry l.fn.index.entries
