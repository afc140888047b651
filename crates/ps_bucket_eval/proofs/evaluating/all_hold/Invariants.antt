use Rattle.std.proofs.Common.{◌≡◌, drop}
use Rattle.ps_bucket_eval.specs.Shown.{alone}
use Rattle.ps_bucket_eval.specs.Solving.{all_hold}
use Rattle.ps_bucket_eval.proofs.evaluating.all_hold.Given as goal

-- those before hold
abbrev pub invariant-rest : goal.invariant-rest
invariant-rest l = all_hold (alone l.id l.row) l.rest ≡ all_hold (alone l.id l.row) (drop l.leaf-index l.rest)
