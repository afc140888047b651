use Rattle.std.proofs.Common.{◌≡◌, ◌++◌}
use Rattle.ps_bucket_eval.proofs.solving.items_of_set.Given as goal

-- the values so far, and those that are left
abbrev pub invariant-values : goal.invariant-values
invariant-values l = l.fn.set.keys ≡ l.values ++ l.value-iterator
