use Rattle.ps_files.proofs.Writing.{IsWriting}
use Rattle.ps_files.proofs.change_files.write_transactions.Given as goal

-- the transactions before those that are left are written
abbrev pub invariant-made : goal.invariant-made
invariant-made l = IsWriting l.fn.rules l.fn.made l.transaction-iterator.rest.items l.store
