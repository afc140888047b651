use Rattle.indexmap.specs.IndexMap.{get}
use Rattle.ps_client_sqlite.specs.Differing.{rows_at}
use Rattle.ps_client_sqlite.proofs.Notings.{Noting, Dropping}
use Rattle.ps_client_sqlite.proofs.differing.row_changes.Given as goal

abbrev pub invariant-new : goal.invariant-new
invariant-new g l = Noting g.K.PartialEq.eq (rows_at g.K.PartialEq.eq l.fn.old.items) (rows_at g.K.PartialEq.eq l.fn.new.items) l.key-iterator (get g.K.PartialEq.eq l.left) l.changes.items

abbrev pub invariant-left : goal.invariant-left
invariant-left g l = Dropping g.K.PartialEq.eq (rows_at g.K.PartialEq.eq l.fn.old.items) (rows_at g.K.PartialEq.eq l.fn.new.items) l.gone-iterator l.changes.items
