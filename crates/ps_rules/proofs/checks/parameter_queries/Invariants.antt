use Rattle.std.proofs.Common.{◌≡◌, [], drop}
use Rattle.ps_rules.specs.Checks.{all_known}
use Rattle.ps_rules.proofs.checks.parameter_queries.Given as goal

-- what was read stands before what is left to read
abbrev pub invariant-written : goal.invariant-written
invariant-written l = all_known (record { queries = []; warnings = l.fn.warnings }) l.all ≡ all_known l.known (drop l.written-index l.all)
