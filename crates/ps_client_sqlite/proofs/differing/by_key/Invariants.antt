use Rattle.std.proofs.Common.{◌≡◌}
use Rattle.std.specs.Map.{update_all}
use Rattle.indexmap.specs.IndexMap.{get}
use Rattle.ps_client_sqlite.specs.Differing.{rows_at}
use Rattle.ps_client_sqlite.proofs.differing.by_key.Given as goal

-- with the rows that are left these are all
abbrev pub invariant-rows : goal.invariant-rows
invariant-rows g l = (key : g.row.K.Denot) → update_all g.K.PartialEq.eq (get g.K.PartialEq.eq l.index) l.key-iterator.rest.items key ≡ rows_at g.K.PartialEq.eq l.fn.rows.items key
