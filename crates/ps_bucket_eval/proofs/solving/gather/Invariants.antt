use Rattle.std.proofs.Common.{◌≡◌, []}
use Rattle.ps_bucket_eval.specs.Solving.{gathered}
use Rattle.ps_bucket_eval.proofs.solving.gather.Given as goal

-- the set so far, and the values that are left
abbrev pub invariant-values : goal.invariant-values
invariant-values l = gathered [] l.fn.values ≡ gathered l.set.keys l.value-iterator.rest.items
