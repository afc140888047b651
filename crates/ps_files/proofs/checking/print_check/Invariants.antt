use Rattle.std.proofs.Common.{◌≡◌, ◌++◌, drop, flat_map}
use Rattle.ps_files.specs.Checking.{definition_line, warning_line, check_text}
use Rattle.ps_files.proofs.checking.print_check.Given as goal

-- what is printed so far, and then the lines that are left
abbrev pub invariant-definitions : goal.invariant-definitions
invariant-definitions l = l.out.items ++ flat_map definition_line (drop l.definition-index l.definition-items) ≡ flat_map definition_line l.rules.definitions

abbrev pub invariant-warnings : goal.invariant-warnings
invariant-warnings l = l.out.items ++ flat_map warning_line (drop l.warning-index l.warning-items) ≡ check_text l.rules
