use Rattle.std.proofs.Common.{◌≡◌, ◌++◌, drop}
use Rattle.ps_showing.specs.Printing.{rows_text}
use Rattle.ps_showing.proofs.printing.push_rows.Given as goal

-- what is printed so far, and then the rows that are left, is what was printed before, and then all rows
abbrev pub invariant-rows : goal.invariant-rows
invariant-rows l = l.out.items ++ rows_text (drop l.row-index l.rows) ≡ l.fn.out.items ++ rows_text l.rows
