-- The value of each form of expression, from the values of its parts.
use Rattle.std.proofs.Common.{◌≡◌, ℕ, ℤ, Bool, List, sym, ap, ◌∙◌, map}
use Rattle.std.specs.Prelude.{not, if◌then◌else◌}
use Rattle.ps_data.specs.declared.values.Value.{Value}
use Rattle.ps_data.specs.declared.values.Value.TheVariants.{Null, Int, Text}
use Rattle.ps_data.specs.Values.{truth_of, is_null}
use Rattle.ps_queries.specs.declared.expressions.Expr.{Expr, fold-roll-Expr}
use Rattle.ps_queries.specs.declared.expressions.Expr.TheOpen.{Expr-F}
use Rattle.ps_queries.specs.declared.expressions.Expr.TheOpen as layers
use Rattle.ps_queries.specs.declared.expressions.Expr.TheVariants as exprs
use Rattle.ps_queries.specs.declared.expressions.Operator.{Operator}
use Rattle.ps_queries.specs.declared.expressions.Function.{Function}
use Rattle.ps_queries.specs.Meaning.{Given, value_of, layer_value, column_value, two_value, call_value, text_value, text_of, truth_value, opposite_truth, bool_value}

module _ (given : Given) where
  pub value_of-Null : value_of given exprs.Null ≡ Null
  value_of-Null = ap (value_of given) (sym exprs.rolls-Null) ∙ fold-roll-Expr Value (layer_value given) layers.Null

  pub value_of-Number : (n : ℤ) → value_of given (exprs.Number n) ≡ Int n
  value_of-Number n = ap (value_of given) (sym (exprs.rolls-Number n)) ∙ fold-roll-Expr Value (layer_value given) (layers.Number n)

  pub value_of-Text : (t : List ℕ) → value_of given (exprs.Text t) ≡ Text t
  value_of-Text t = ap (value_of given) (sym (exprs.rolls-Text t)) ∙ fold-roll-Expr Value (layer_value given) (layers.Text t)

  pub value_of-Column : (name : List ℕ) → value_of given (exprs.Column name) ≡ column_value given.id given.row name
  value_of-Column name = ap (value_of given) (sym (exprs.rolls-Column name)) ∙ fold-roll-Expr Value (layer_value given) (layers.Column name)

  pub value_of-Bucket : (name : List ℕ) → value_of given (exprs.Bucket name) ≡ given.bucket name
  value_of-Bucket name = ap (value_of given) (sym (exprs.rolls-Bucket name)) ∙ fold-roll-Expr Value (layer_value given) (layers.Bucket name)

  pub value_of-UserId : value_of given exprs.UserId ≡ Text given.asker.user
  value_of-UserId = ap (value_of given) (sym exprs.rolls-UserId) ∙ fold-roll-Expr Value (layer_value given) layers.UserId

  pub value_of-Jwt : value_of given exprs.Jwt ≡ Text given.asker.payload
  value_of-Jwt = ap (value_of given) (sym exprs.rolls-Jwt) ∙ fold-roll-Expr Value (layer_value given) layers.Jwt

  pub value_of-Parameters : value_of given exprs.Parameters ≡ Text given.asker.parameters
  value_of-Parameters = ap (value_of given) (sym exprs.rolls-Parameters) ∙ fold-roll-Expr Value (layer_value given) layers.Parameters

  pub value_of-Call : (function : Function) (arguments : List Expr) → value_of given (exprs.Call function arguments) ≡ call_value function (map (value_of given) arguments)
  value_of-Call function arguments = ap (value_of given) (sym (exprs.rolls-Call function arguments)) ∙ fold-roll-Expr Value (layer_value given) (layers.Call function arguments)

  pub value_of-CastText : (of : Expr) → value_of given (exprs.CastText of) ≡ text_value (text_of (value_of given of))
  value_of-CastText of = ap (value_of given) (sym (exprs.rolls-CastText of)) ∙ fold-roll-Expr Value (layer_value given) (layers.CastText of)

  pub value_of-Not : (of : Expr) → value_of given (exprs.Not of) ≡ truth_value (opposite_truth (truth_of (value_of given of)))
  value_of-Not of = ap (value_of given) (sym (exprs.rolls-Not of)) ∙ fold-roll-Expr Value (layer_value given) (layers.Not of)

  pub value_of-IsNull : (of : Expr) (negated : Bool) → value_of given (exprs.IsNull of negated) ≡ bool_value (if negated then not (is_null (value_of given of)) else is_null (value_of given of))
  value_of-IsNull of negated = ap (value_of given) (sym (exprs.rolls-IsNull of negated)) ∙ fold-roll-Expr Value (layer_value given) (layers.IsNull of negated)

  pub value_of-Two : (operator : Operator) (left right : Expr) → value_of given (exprs.Two operator left right) ≡ two_value operator (value_of given left) (value_of given right)
  value_of-Two operator left right = ap (value_of given) (sym (exprs.rolls-Two operator left right)) ∙ fold-roll-Expr Value (layer_value given) (layers.Two operator left right)
