use Rattle.std.proofs.Common.{◌≡◌, [], drop}
use Rattle.ps_rules.specs.Checks.{all_planned}
use Rattle.ps_rules.proofs.checks.data_queries.Given as goal

-- what was read stands before what is left to read
abbrev pub invariant-written : goal.invariant-written
invariant-written l = all_planned l.names l.before [] l.all ≡ all_planned l.names l.last l.queries (drop l.written-index l.all)
