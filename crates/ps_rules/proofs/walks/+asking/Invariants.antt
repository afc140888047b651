use Rattle.std.proofs.Common.{◌≡◌, drop}
use Rattle.std.specs.List.{list_any}
use Rattle.ps_queries.specs.declared.expressions.Expr.{Expr}
use Rattle.ps_definitions.specs.Branches.{asks_parameters}
use Rattle.ps_rules.proofs.walks.+asking.Given as goal

-- none was found so far
abbrev pub invariant-any_asks_parameters-all : goal.invariant-any_asks_parameters-all
invariant-any_asks_parameters-all l = list_any (λ (e : Expr). asks_parameters e) l.all ≡ list_any (λ (e : Expr). asks_parameters e) (drop l.one-index l.all)
