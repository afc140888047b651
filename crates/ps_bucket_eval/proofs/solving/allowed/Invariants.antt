use Rattle.std.proofs.Common.{◌≡◌, None, drop}
use Rattle.ps_bucket_eval.specs.Shown.{alone}
use Rattle.ps_bucket_eval.specs.Solving.{narrowed_along}
use Rattle.ps_bucket_eval.proofs.solving.allowed.Given as goal

-- what the matches so far leave
abbrev pub invariant-matches : goal.invariant-matches
invariant-matches l = narrowed_along (alone l.id l.row) l.name None l.matches ≡ narrowed_along (alone l.id l.row) l.name l.values (drop l.one-index l.matches)
