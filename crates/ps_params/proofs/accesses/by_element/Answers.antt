use Rattle.std.proofs.Common.{◌≡◌, true, Option, Some, None}
use Rattle.std.specs.Prelude.{IfSome}
use Rattle.ps_queries.specs.declared.expressions.Expr.TheVariants as exprs
use Rattle.ps_queries.specs.declared.expressions.Operator.TheVariants as operators
use Rattle.ps_params.specs.declared.accesses.Access.{Access}
use Rattle.ps_params.specs.Accesses.{IsAccess, IsColumnWith}
use Rattle.ps_params.proofs.Leaves.{by_list}
use Rattle.ps_params.proofs.accesses.by_element.Goals as goal

pub returns : goal.returns
returns c =
    elim c.on_left.result as (λ (o : Option Access). IfSome o (λ access. (access.other.now ≡ c.args.right.now) × (access.listed ≡ true) × IsColumnWith c.args.left.now (exprs.Column access.column.now) c.args.right.now)
    → IfSome o (λ access. IsAccess (exprs.Two operators.Within c.args.left.now c.args.right.now) access.column.now access.other.now access.listed)) [
      | None ↦ λ h. tt
      | Some access ↦ λ h. by_list c.equal_where_both_are_present.ensures c.args.left.now c.args.right.now access.column.now access.other.now access.listed h
    ] c.on_left.ensures
