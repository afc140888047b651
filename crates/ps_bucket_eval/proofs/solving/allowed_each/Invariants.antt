use Rattle.std.proofs.Common.{◌≡◌, map, take}
use Rattle.ps_bucket_eval.specs.Shown.{alone}
use Rattle.ps_bucket_eval.specs.Solving.{allowed}
use Rattle.ps_bucket_eval.proofs.solving.allowed_each.Given as goal

-- the lists so far
abbrev pub invariant-names : goal.invariant-names
invariant-names l = l.lists ≡ map (allowed (alone l.id l.row) l.matches) (take l.name-index l.names)
