use Rattle.std.proofs.Common.{List, Option}
use Rattle.ps_rows.specs.declared.changes.Transaction.{Transaction}
use Rattle.ps_definitions.specs.RuleSets.{RuleSet}
use Rattle.ps_files.specs.declared.faults.Limit.{Limit}
use Rattle.ps_files.specs.ReadingChanges.{IsPending}
use Rattle.ps_files.proofs.change_files.write_fed.Given as goal

-- what was pending is written, but for what is left
abbrev pub invariant-batches : goal.invariant-batches
invariant-batches l = (rules : RuleSet) (ts : List Transaction) (passed : Option Limit) → IsPending rules ts l.fn.changes passed l.fn.store → IsPending rules ts l.left passed l.store

abbrev pub decreases-batches : goal.decreases-batches
decreases-batches l = l.left
