-- The value of a function's call, and the value whatever it does not go by.
use Rattle.std.proofs.Common.{◌≡◌, ℕ, false, List, map, sym, ap, ◌∙◌}
use Rattle.std.specs.Prelude.{Result, Ok, Err, IfOk}
use Rattle.ps_data.specs.declared.values.Value.{Value}
use Rattle.ps_queries.specs.declared.expressions.Expr.{Expr}
use Rattle.ps_queries.specs.declared.expressions.Expr.TheVariants as exprs
use Rattle.ps_queries.specs.declared.expressions.Function.{Function}
use Rattle.ps_queries.specs.Meaning.{Given, value_of, call_value}
use Rattle.ps_data.specs.declared.columns.Column.{Column}
use Rattle.ps_queries.specs.declared.subjects.Subject.TheVariants as subjects
use Rattle.ps_queries.specs.Subjects.{speaks, IsSameForEveryAsker, IsSameForEveryBucket}
use Rattle.ps_queries.specs.declared.askers.Asker.{Asker}
use Rattle.ps_sql_eval.specs.Evaluated.{given_of, without_bucket, IsValueFor, IsValueOn}
use Rattle.ps_queries.specs.ValueLaws.{value_of-Call}

pub call_is : {E : Type 0} (given : Given) (expr : Expr) (function : Function) (arguments passed : List Expr) (r : Result Value E) → expr ≡ exprs.Call function arguments → passed ≡ arguments
    → IfOk r (λ value. value ≡ call_value function (map (value_of given) passed)) → IfOk r (λ value. value ≡ value_of given expr)
call_is given expr function arguments passed (Ok value) is same h =
    h ∙ ap (λ es. call_value function (map (value_of given) es)) same ∙ sym (ap (value_of given) is ∙ value_of-Call given function arguments)
call_is given expr function arguments passed (Err fault) is same h = tt

-- the value where every parameter of a bucket is Null is that for every bucket
pub value_for : {E : Type 0} → IsSameForEveryBucket → (expr : Expr) (asker : Asker) (id : List ℕ) (row : List Column) (r : Result Value E) → speaks subjects.Bucket expr ≡ false
    → IfOk r (λ value. value ≡ value_of (without_bucket asker id row) expr) → IfOk r (IsValueFor expr asker id row)
value_for law expr asker id row (Ok value) silent is = λ bucket. is ∙ law expr (without_bucket asker id row) bucket silent
value_for law expr asker id row (Err fault) silent is = tt

-- and that for one asker is that for every asker
pub value_on : {E : Type 0} → IsSameForEveryAsker → IsSameForEveryBucket → (expr : Expr) (asker : Asker) (id : List ℕ) (row : List Column) (r : Result Value E) → speaks subjects.Asker expr ≡ false
    → speaks subjects.Bucket expr ≡ false → IfOk r (λ value. value ≡ value_of (without_bucket asker id row) expr) → IfOk r (IsValueOn expr id row)
value_on asks law expr asker id row (Ok value) quiet silent is =
    λ other bucket. is ∙ law expr (without_bucket asker id row) bucket silent ∙ asks expr (given_of asker id row bucket) other quiet
value_on asks law expr asker id row (Err fault) quiet silent is = tt
