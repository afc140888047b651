use Rattle.std.proofs.Common.{◌≡◌, ◌++◌}
use Rattle.ps_store.specs.Steps.{marked}
use Rattle.ps_store.proofs.marking.mark_buckets.Given as goal

-- with the operations that are left, all are there
abbrev pub invariant-entered : goal.invariant-entered
invariant-entered l = l.all.items ++ marked l.mark l.e-iterator.rest.items ≡ marked l.mark l.fn.entered.items
