-- What an expression speaks of, and what its value then goes by.
use Rattle.std.specs.Prelude.{◌≡◌, ℕ, Bool, true, false, ◌||◌, List, [], ◌∷◌, Option, Some, None}
use Rattle.std.specs.List.{list_any}
use Rattle.ps_data.specs.declared.columns.Column.{Column}
use Rattle.ps_data.specs.declared.values.Value.{Value}
use Rattle.ps_queries.specs.declared.expressions.Expr.{Expr, fold-Expr}
use Rattle.ps_queries.specs.declared.expressions.Expr.TheOpen.{Expr-F}
use Rattle.ps_queries.specs.declared.expressions.Expr.TheOpen as layers
use Rattle.ps_queries.specs.declared.queries.Output.{Output}
use Rattle.ps_queries.specs.declared.subjects.Subject.{Subject}
use Rattle.ps_queries.specs.declared.subjects.Subject.TheVariants as subjects
use Rattle.ps_queries.specs.declared.askers.Asker.{Asker}
use Rattle.ps_queries.specs.Meaning.{Given, value_of}

abbrev pub is_asker : Subject → Bool
is_asker subjects.Asker = true
is_asker subjects.Bucket = false
is_asker subjects.Row = false

abbrev pub is_bucket : Subject → Bool
is_bucket subjects.Asker = false
is_bucket subjects.Bucket = true
is_bucket subjects.Row = false

abbrev pub is_row : Subject → Bool
is_row subjects.Asker = false
is_row subjects.Bucket = false
is_row subjects.Row = true

abbrev pub any_true : List Bool → Bool
any_true [] = false
any_true (b ∷ bs) = b || any_true bs

-- a request function speaks of the asker, `bucket.p` of the bucket, and a column of the row; all else speaks of what its parts do
abbrev pub layer_speaks : Subject → Expr-F Bool → Bool
layer_speaks subject layers.Null = false
layer_speaks subject (layers.Number n) = false
layer_speaks subject (layers.Text t) = false
layer_speaks subject (layers.Column name) = is_row subject
layer_speaks subject (layers.Bucket name) = is_bucket subject
layer_speaks subject layers.UserId = is_asker subject
layer_speaks subject layers.Jwt = is_asker subject
layer_speaks subject layers.Parameters = is_asker subject
layer_speaks subject (layers.Call function arguments) = any_true arguments
layer_speaks subject (layers.CastText of) = of
layer_speaks subject (layers.Not of) = of
layer_speaks subject (layers.IsNull of negated) = of
layer_speaks subject (layers.Two operator left right) = left || right

-- whether an expression speaks of a subject
abbrev pub speaks : Subject → Expr → Bool
speaks subject expr = fold-Expr Bool (layer_speaks subject) expr

abbrev pub condition_speaks : Subject → Option Expr → Bool
condition_speaks subject None = false
condition_speaks subject (Some condition) = speaks subject condition

-- some output or the condition of a query speaks of a subject
abbrev pub query_speaks : Subject → List Output → Option Expr → Bool
query_speaks subject outputs condition = list_any (λ (o : Output). speaks subject o.expr) outputs || condition_speaks subject condition

-- what does not speak of the asker has the same value whoever asks
abbrev pub IsSameForEveryAsker : Type 0
IsSameForEveryAsker = (expr : Expr) (given : Given) (other : Asker) → speaks subjects.Asker expr ≡ false
    → value_of given expr ≡ value_of (record { asker = other; id = given.id; row = given.row; bucket = given.bucket }) expr

-- what does not speak of the bucket has the same value for every bucket
abbrev pub IsSameForEveryBucket : Type 0
IsSameForEveryBucket = (expr : Expr) (given : Given) (other : List ℕ → Value) → speaks subjects.Bucket expr ≡ false
    → value_of given expr ≡ value_of (record { asker = given.asker; id = given.id; row = given.row; bucket = other }) expr

-- what does not speak of the row has the same value on every row
abbrev pub IsSameOnEveryRow : Type 0
IsSameOnEveryRow = (expr : Expr) (given : Given) (id : List ℕ) (row : List Column) → speaks subjects.Row expr ≡ false
    → value_of given expr ≡ value_of (record { asker = given.asker; id = id; row = row; bucket = given.bucket }) expr
