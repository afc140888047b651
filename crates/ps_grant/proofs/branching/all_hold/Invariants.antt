use Rattle.std.proofs.Common.{◌≡◌, drop, Some}
use Rattle.std.specs.List.{list_all}
use Rattle.ps_queries.specs.declared.expressions.Expr.{Expr}
use Rattle.ps_queries.specs.Meaning.{holds}
use Rattle.ps_sql_eval.specs.Evaluated.{without_bucket}
use Rattle.ps_grant.proofs.branching.all_hold.Given as goal

-- all so far hold
abbrev pub invariant-all : goal.invariant-all
invariant-all l = list_all (λ (e : Expr). holds (without_bucket l.asker l.id l.row) (Some e)) l.all ≡ list_all (λ (e : Expr). holds (without_bucket l.asker l.id l.row) (Some e)) (drop l.one-index l.all)
