-- Worked values.
use Rattle.std.proofs.Common.{◌≡◌, pos, [], ◌∷◌, refl, ap, ◌∙◌}
use Rattle.std.specs.Prelude.{codes}
use Rattle.std.specs.Fmt.{digits}
use Rattle.ps_data.specs.declared.values.Value.TheVariants.{Null, Int, Text}
use Rattle.ps_queries.specs.declared.expressions.Operator.TheVariants as operators
use Rattle.ps_queries.specs.declared.expressions.Function.TheVariants as functions
use Rattle.ps_queries.specs.declared.expressions.Expr.TheVariants as exprs
use Rattle.ps_queries.specs.Meaning.{Given, two_value, call_value, column_value, value_of}
use Rattle.ps_queries.specs.ValueLaws.{value_of-Two, value_of-Number, value_of-Null}

-- Unknown OR True is True, Unknown AND True is Unknown, Unknown AND False is False
unknown_or_true : two_value operators.Or Null (Int (pos 5)) ≡ Int (pos 1)
unknown_or_true = refl

unknown_and_true : two_value operators.And Null (Int (pos 1)) ≡ Null
unknown_and_true = refl

unknown_and_false : two_value operators.And Null (Text (codes "x")) ≡ Int (pos 0)
unknown_and_false = refl

-- a text is never true, and what is compared with Null is Null
text_or_zero : two_value operators.Or (Text (codes "1")) (Int (pos 0)) ≡ Int (pos 0)
text_or_zero = refl

null_is_not_null : two_value operators.Equal Null Null ≡ Null
null_is_not_null = refl

-- an integer is below each text, and there is no affinity
integer_below_text : two_value operators.Less (Int (pos 9)) (Text (codes "1")) ≡ Int (pos 1)
integer_below_text = refl

integer_no_text : two_value operators.Equal (Int (pos 1)) (Text (codes "1")) ≡ Int (pos 0)
integer_no_text = refl

order_with_null : two_value operators.GreaterEqual (Int (pos 1)) Null ≡ Null
order_with_null = refl

-- a number joins as its decimal text
joined_number : two_value operators.Join (Text (codes "a")) (Int (pos 12)) ≡ Text (codes "a12")
unfolding digits
joined_number = refl

joined_null : two_value operators.Join (Text (codes "a")) Null ≡ Null
joined_null = refl

-- what is no JSON array makes IN Null
in_no_array : two_value operators.Within (Int (pos 1)) (Int (pos 1)) ≡ Null
in_no_array = refl

upper_case : call_value functions.Upper (Text (codes "aBz{") ∷ []) ≡ Text (codes "ABZ{")
upper_case = refl

lower_number : call_value functions.Lower (Int (pos 7) ∷ []) ≡ Text (codes "7")
unfolding digits
lower_number = refl

if_null : call_value functions.IfNull (Null ∷ Int (pos 2) ∷ []) ≡ Int (pos 2)
if_null = refl

iif_text : call_value functions.Iif (Text (codes "1") ∷ Int (pos 1) ∷ Int (pos 2) ∷ []) ≡ Int (pos 2)
iif_text = refl

type_of_integer : call_value functions.TypeOf (Int (pos 2) ∷ []) ≡ Text (codes "integer")
type_of_integer = refl

id_is_the_id : column_value (codes "r1") [] (codes "id") ≡ Text (codes "r1")
id_is_the_id = refl

column_missing : column_value (codes "r1") [] (codes "x") ≡ Null
column_missing = refl

-- a whole expression: 2 = 2 OR NULL
whole : (given : Given) → value_of given (exprs.Two operators.Or (exprs.Two operators.Equal (exprs.Number (pos 2)) (exprs.Number (pos 2))) exprs.Null) ≡ Int (pos 1)
whole given = value_of-Two given operators.Or _ _
    ∙ ap (λ a. two_value operators.Or a (value_of given exprs.Null)) (value_of-Two given operators.Equal _ _ ∙ ap (λ n. two_value operators.Equal n n) (value_of-Number given (pos 2)))
    ∙ ap (two_value operators.Or (Int (pos 1))) (value_of-Null given)
