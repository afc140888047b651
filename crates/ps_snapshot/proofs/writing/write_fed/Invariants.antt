use Rattle.std.proofs.Common.{List}
use Rattle.ps_rows.specs.declared.changes.Transaction.{Transaction}
use Rattle.ps_store.specs.declared.fixed.Fixed.{Fixed}
-- what was pending is written, but for what is left
use Rattle.ps_snapshot.specs.Writing.{IsPending}
use Rattle.ps_snapshot.proofs.writing.write_fed.Given as goal

abbrev pub invariant-batches : goal.invariant-batches
invariant-batches l = (fixed : Fixed) (fed : List Transaction) → IsPending fixed fed l.fn.changes l.fn.store → IsPending fixed fed l.left l.store

abbrev pub decreases-batches : goal.decreases-batches
decreases-batches l = l.left
