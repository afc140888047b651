use Rattle.ps_core.specs.Scripts.{AreLow}
use Rattle.replay_cases.proofs.changes.transactions.Given as goal

abbrev pub invariant-transactions : goal.invariant-transactions
invariant-transactions l = AreLow l.all.items
