use Rattle.std.proofs.Common.{drop}
use Rattle.ps_sql_eval.proofs.ArrayItems.{LeavesItems}
use Rattle.ps_sql_eval.proofs.members.any_equals.Given as goal

abbrev pub invariant-items : goal.invariant-items
invariant-items l = LeavesItems l.x l.items.items (drop l.item-index l.item-items)
