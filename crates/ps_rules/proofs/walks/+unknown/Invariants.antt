use Rattle.std.proofs.Common.{◌≡◌, drop}
use Rattle.std.specs.List.{list_any}
use Rattle.ps_queries.specs.declared.expressions.Expr.{Expr}
use Rattle.std.specs.Prelude.{not}
use Rattle.ps_definitions.specs.Branches.{mentions}
use Rattle.ps_definitions.specs.Names.{is_in}
use Rattle.ps_rules.proofs.walks.+unknown.Given as goal

-- none was found so far
abbrev pub invariant-any_has_unknown-all : goal.invariant-any_has_unknown-all
invariant-any_has_unknown-all l = list_any (λ (e : Expr). mentions (λ name. not (is_in name l.names)) e) l.all ≡ list_any (λ (e : Expr). mentions (λ name. not (is_in name l.names)) e) (drop l.one-index l.all)
