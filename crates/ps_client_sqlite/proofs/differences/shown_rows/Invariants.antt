use Rattle.std.proofs.Common.{◌≡◌, map, take}
use Rattle.ps_client_sqlite.specs.Writing.{shown_pair}
use Rattle.ps_client_sqlite.proofs.differences.shown_rows.Given as goal

abbrev pub invariant-shown : goal.invariant-shown
invariant-shown l = l.rows.items ≡ map shown_pair (take l.row-index l.shown)
