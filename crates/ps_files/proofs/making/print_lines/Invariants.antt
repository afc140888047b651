use Rattle.std.proofs.Common.{◌≡◌, ◌++◌, drop}
use Rattle.ps_files.specs.Making.{lines_text}
use Rattle.ps_files.proofs.making.print_lines.Given as goal

-- what is printed so far, and then the lines that are left, is the text of all
abbrev pub invariant-transactions : goal.invariant-transactions
invariant-transactions l = l.out.items ++ lines_text (drop l.transaction-index l.transactions) ≡ lines_text l.transactions
