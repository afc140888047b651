use Rattle.std.proofs.Common.{drop}
use Rattle.ps_sql_eval.proofs.ArrayItems.{LeavesValues}
use Rattle.ps_sql_eval.proofs.arrays.values_of.Given as goal

abbrev pub invariant-items : goal.invariant-items
invariant-items l = LeavesValues l.values l.items.items (drop l.item-index l.item-items)
