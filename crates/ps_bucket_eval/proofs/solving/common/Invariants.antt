use Rattle.std.proofs.Common.{◌≡◌, ◌++◌}
use Rattle.ps_bucket_eval.specs.Solving.{common}
use Rattle.ps_bucket_eval.proofs.solving.common.Given as goal

-- those of the values so far, and the values that are left
abbrev pub invariant-values : goal.invariant-values
invariant-values l = common l.fn.values l.set.keys ≡ l.both ++ common l.value-iterator.rest.items l.set.keys
