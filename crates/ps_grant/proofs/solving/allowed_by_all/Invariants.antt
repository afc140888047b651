use Rattle.std.proofs.Common.{◌≡◌, map, take}
use Rattle.ps_sql_eval.specs.Evaluated.{without_bucket}
use Rattle.ps_grant.specs.Solving.{allowed_by}
use Rattle.ps_grant.proofs.solving.allowed_by_all.Given as goal

-- what the matches so far allow
abbrev pub invariant-matches : goal.invariant-matches
invariant-matches l = l.all ≡ map (allowed_by (without_bucket l.asker l.id l.row)) (take l.one-index l.matches)
