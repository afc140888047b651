use Rattle.std.proofs.Common.{sym, ap, ◌∙◌, subst}
use Rattle.std.specs.Prelude.{IfSome}
use Rattle.ps_queries.specs.declared.expressions.Expr.{Expr}
use Rattle.ps_queries.specs.declared.expressions.Expr.TheVariants as exprs
use Rattle.ps_queries.specs.declared.expressions.Operator.TheVariants as operators
use Rattle.ps_params.specs.declared.accesses.Access.{Access}
use Rattle.ps_params.specs.Accesses.{IsAccess}
use Rattle.ps_params.proofs.Leaves.{if_some, left_access, right_access}
use Rattle.ps_params.proofs.accesses.+access_of.Goals as goal

pub returns-then-is_some : goal.returns-then-is_some
returns-then-is_some t c =
    subst (λ (e : Expr). IfSome c.access_of-first.result (λ (a : Access). IsAccess e a.column.now a.other.now a.listed))
    (sym (c.in-Two.is ∙ ap (λ o. exprs.Two o c.in-Two.left c.in-Two.right) c.in-And.is))
    (if_some (λ (a : Access). IsAccess c.get.result.now a.column.now a.other.now a.listed) (λ (a : Access). IsAccess (exprs.Two operators.And c.in-Two.left c.in-Two.right) a.column.now a.other.now a.listed)
    (λ a h. left_access c.in-Two.left c.in-Two.right a.column.now a.other.now a.listed (subst (λ (e : Expr). IsAccess e a.column.now a.other.now a.listed) c.get.ensures h))
    c.access_of-first.result c.access_of-first.ensures)

pub returns-else-is_some : goal.returns-else-is_some
returns-else-is_some t c =
    subst (λ (e : Expr). IfSome c.access_of.result (λ (a : Access). IsAccess e a.column.now a.other.now a.listed))
    (sym (c.in-Two.is ∙ ap (λ o. exprs.Two o c.in-Two.left c.in-Two.right) c.in-And.is))
    (if_some (λ (a : Access). IsAccess c.get-in-And.result.now a.column.now a.other.now a.listed) (λ (a : Access). IsAccess (exprs.Two operators.And c.in-Two.left c.in-Two.right) a.column.now a.other.now a.listed)
    (λ a h. right_access c.in-Two.left c.in-Two.right a.column.now a.other.now a.listed (subst (λ (e : Expr). IsAccess e a.column.now a.other.now a.listed) c.get-in-And.ensures h))
    c.access_of.result c.access_of.ensures)
