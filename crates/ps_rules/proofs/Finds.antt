-- What is found in each form of expression, from what is found in its parts.
use Rattle.std.proofs.Common.{◌≡◌, ℕ, ℤ, Bool, false, List, [], ◌∷◌, refl, sym, ap, ◌∙◌, map}
use Rattle.std.specs.Prelude.{◌||◌}
use Rattle.std.specs.List.{list_any}
use Rattle.ps_queries.specs.declared.expressions.Expr.{Expr, fold-roll-Expr}
use Rattle.ps_queries.specs.declared.expressions.Expr.TheOpen.{Expr-F}
use Rattle.ps_queries.specs.declared.expressions.Expr.TheOpen as layers
use Rattle.ps_queries.specs.declared.expressions.Expr.TheVariants as exprs
use Rattle.ps_queries.specs.declared.expressions.Operator.{Operator}
use Rattle.ps_queries.specs.declared.expressions.Function.{Function}
use Rattle.ps_definitions.specs.Branches.{finds, layer_finds}

-- a test of some item, of items that are tested first
pub any_map : {X : Type 0} (p : X → Bool) (xs : List X) → list_any (λ b. b) (map p xs) ≡ list_any p xs
any_map p [] = refl
any_map p (x ∷ xs) = ap (λ b. p x || b) (any_map p xs)

module _ (test : List ℕ → Bool) (asked : Bool) where
  pub finds-Null : finds test asked exprs.Null ≡ false
  unfolding finds
  finds-Null = ap (finds test asked) (sym exprs.rolls-Null) ∙ fold-roll-Expr Bool (layer_finds test asked) layers.Null

  pub finds-Number : (n : ℤ) → finds test asked (exprs.Number n) ≡ false
  unfolding finds
  finds-Number n = ap (finds test asked) (sym (exprs.rolls-Number n)) ∙ fold-roll-Expr Bool (layer_finds test asked) (layers.Number n)

  pub finds-Text : (t : List ℕ) → finds test asked (exprs.Text t) ≡ false
  unfolding finds
  finds-Text t = ap (finds test asked) (sym (exprs.rolls-Text t)) ∙ fold-roll-Expr Bool (layer_finds test asked) (layers.Text t)

  pub finds-Column : (name : List ℕ) → finds test asked (exprs.Column name) ≡ false
  unfolding finds
  finds-Column name = ap (finds test asked) (sym (exprs.rolls-Column name)) ∙ fold-roll-Expr Bool (layer_finds test asked) (layers.Column name)

  pub finds-Bucket : (name : List ℕ) → finds test asked (exprs.Bucket name) ≡ test name
  unfolding finds
  finds-Bucket name = ap (finds test asked) (sym (exprs.rolls-Bucket name)) ∙ fold-roll-Expr Bool (layer_finds test asked) (layers.Bucket name)

  pub finds-UserId : finds test asked exprs.UserId ≡ false
  unfolding finds
  finds-UserId = ap (finds test asked) (sym exprs.rolls-UserId) ∙ fold-roll-Expr Bool (layer_finds test asked) layers.UserId

  pub finds-Jwt : finds test asked exprs.Jwt ≡ false
  unfolding finds
  finds-Jwt = ap (finds test asked) (sym exprs.rolls-Jwt) ∙ fold-roll-Expr Bool (layer_finds test asked) layers.Jwt

  pub finds-Parameters : finds test asked exprs.Parameters ≡ asked
  unfolding finds
  finds-Parameters = ap (finds test asked) (sym exprs.rolls-Parameters) ∙ fold-roll-Expr Bool (layer_finds test asked) layers.Parameters

  pub finds-Call : (function : Function) (arguments : List Expr) → finds test asked (exprs.Call function arguments) ≡ list_any (finds test asked) arguments
  unfolding finds
  finds-Call function arguments = ap (finds test asked) (sym (exprs.rolls-Call function arguments)) ∙ fold-roll-Expr Bool (layer_finds test asked) (layers.Call function arguments)
      ∙ any_map (finds test asked) arguments

  pub finds-CastText : (of : Expr) → finds test asked (exprs.CastText of) ≡ finds test asked of
  unfolding finds
  finds-CastText of = ap (finds test asked) (sym (exprs.rolls-CastText of)) ∙ fold-roll-Expr Bool (layer_finds test asked) (layers.CastText of)

  pub finds-Not : (of : Expr) → finds test asked (exprs.Not of) ≡ finds test asked of
  unfolding finds
  finds-Not of = ap (finds test asked) (sym (exprs.rolls-Not of)) ∙ fold-roll-Expr Bool (layer_finds test asked) (layers.Not of)

  pub finds-IsNull : (of : Expr) (negated : Bool) → finds test asked (exprs.IsNull of negated) ≡ finds test asked of
  unfolding finds
  finds-IsNull of negated = ap (finds test asked) (sym (exprs.rolls-IsNull of negated)) ∙ fold-roll-Expr Bool (layer_finds test asked) (layers.IsNull of negated)

  pub finds-Two : (operator : Operator) (left right : Expr) → finds test asked (exprs.Two operator left right) ≡ (finds test asked left || finds test asked right)
  unfolding finds
  finds-Two operator left right = ap (finds test asked) (sym (exprs.rolls-Two operator left right)) ∙ fold-roll-Expr Bool (layer_finds test asked) (layers.Two operator left right)

pub ruleset found_in = (finds-Null, finds-Number, finds-Text, finds-Column, finds-Bucket, finds-UserId, finds-Jwt, finds-Parameters, finds-Call, finds-CastText, finds-Not, finds-IsNull, finds-Two)
