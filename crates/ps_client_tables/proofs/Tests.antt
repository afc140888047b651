-- SQL's tests for equality, and what a column keeps of a value that has its type.
use Rattle.std.proofs.Common.{◌≡◌, ℕ, ℤ, Bool, true, false, cond, ◌&&◌, ◌||◌, List, Some, refl, sym, ap}
use Rattle.std.specs.Ordering.{is_eq}
use Rattle.sqlite_value.specs.declared.value.Value.{Value}
use Rattle.sqlite_value.specs.declared.value.Value.TheVariants.{Null, Int, Real, Text, Blob}
use Rattle.sqlite_value.specs.declared.keys.Collation.TheVariants.{Binary}
use Rattle.sqlite_value.specs.Order.{value_cmp}
use Rattle.sqlite_value.proofs.OrderLemmas.{value_cmp-Null}
use Rattle.sqlite_sql.specs.Ops.{unary, binary, is_true, from_truth}
use Rattle.sqlite_schema.specs.Rules.{equal}
use Rattle.sqlite_schema.specs.declared.schema.Kind.TheVariants as kind
use Rattle.sqlite_rules.specs.Cast.{cast}

truth_back : (b : Bool) → is_true (from_truth (Some b)) ≡ b
truth_back true = refl
truth_back false = refl

pub equal_int : (v : Value) (n : ℤ) → equal Binary v (Int n) ≡ is_eq (value_cmp v (Int n))
unfolding binary
equal_int Null n = ap is_eq (sym (value_cmp-Null (Int n)))
equal_int (Int m) n = truth_back _
equal_int (Real x) n = truth_back _
equal_int (Text t) n = truth_back _
equal_int (Blob b) n = truth_back _

pub equal_text : (v : Value) (text : List ℕ) → equal Binary v (Text text) ≡ is_eq (value_cmp v (Text text))
unfolding binary
equal_text Null text = ap is_eq (sym (value_cmp-Null (Text text)))
equal_text (Int m) text = truth_back _
equal_text (Real x) text = truth_back _
equal_text (Text t) text = truth_back _
equal_text (Blob b) text = truth_back _

pub and_true : (b : Bool) → (b && true) ≡ b
and_true true = refl
and_true false = refl

pub or_false : (b : Bool) → (b || false) ≡ b
or_false true = refl
or_false false = refl

either : (b : Bool) (x : Value) → cond b x x ≡ x
either true x = refl
either false x = refl

pub cast_int : (n : ℤ) → cast kind.Integer (Int n) ≡ Int n
unfolding unary
cast_int n = either _ (Int n)

pub cast_null : cast kind.Integer Null ≡ Null
unfolding unary
cast_null = either _ Null
