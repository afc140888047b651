use Rattle.std.proofs.Common.{◌≡◌, ◌++◌, drop}
use Rattle.ps_commands.specs.Auditing.{complete_lines}
use Rattle.ps_commands.proofs.auditing.print_complete.Given as goal

-- what is printed so far, and then the complete lines that are left, is the text of all
abbrev pub invariant-completed : goal.invariant-completed
invariant-completed l = l.out.items ++ complete_lines (drop l.judged-index l.completed) ≡ complete_lines l.completed
