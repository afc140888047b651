use Rattle.std.proofs.Common.{◌≡◌, ◌++◌, map, take}
use Rattle.ps_client_sqlite.specs.Writing.{entry_pair}
use Rattle.ps_client_sqlite.proofs.differences.add_held.Given as goal

abbrev pub invariant-held : goal.invariant-held
invariant-held l = l.rows.items ≡ l.fn.rows.items ++ map (entry_pair l.fn.bucket.name) (take l.held-index l.fn.bucket.held)
