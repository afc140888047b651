use Rattle.std.proofs.Common.{◌≡◌, drop, leb, filter}
use Rattle.ps_rows.specs.declared.changes.Transaction.{Transaction}
use Rattle.ps_rows.specs.Source.{after_transactions, source_at}
use Rattle.ps_grant.proofs.sourcing.source_at.Given as goal

-- the transactions that are left make the source of what was taken
abbrev pub invariant-transactions : goal.invariant-transactions
invariant-transactions l = after_transactions (filter (λ (t : Transaction). leb t.position.0 l.position.0) (drop l.transaction-index l.transactions)) l.source ≡ source_at l.transactions l.position.0
