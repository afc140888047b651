-- The laws of branches and of buckets' names.
use Rattle.std.specs.Prelude.{◌≡◌, ℕ, ◌<◌, ◌^◌, pos, negsuc, ◌↔◌, Bool, true, false, not, List, [], ◌∷◌, ◌++◌, Option}
use Rattle.std.specs.List.{AllByRecursion}
use Rattle.ps_data.specs.declared.values.Value.{Value}
use Rattle.ps_data.specs.declared.values.Value.TheVariants.{Null, Int, Text}
use Rattle.ps_queries.specs.declared.expressions.Expr.{Expr, out-Expr}
use Rattle.ps_queries.specs.declared.expressions.Expr.TheOpen.{Expr-F}
use Rattle.ps_queries.specs.declared.expressions.Expr.TheOpen as layers
use Rattle.ps_queries.specs.declared.expressions.Expr.TheVariants as exprs
use Rattle.ps_queries.specs.declared.expressions.Operator.{Operator}
use Rattle.ps_queries.specs.declared.expressions.Operator.TheVariants as operators
use Rattle.ps_queries.specs.Meaning.{Given, Holds, holds}
use Rattle.ps_definitions.specs.declared.matches.Match.{Match}
use Rattle.ps_definitions.specs.Names.{is_definition_name}
use Rattle.ps_definitions.specs.Buckets.{bucket_name_of}
use Rattle.ps_definitions.specs.Branches.{branches_in, branches_of, crossed, leaf_branch}
use Rattle.ps_definitions.specs.Meeting.{allows, meets_some}

abbrev pub is_either : Operator → Bool
is_either operators.Or = true
is_either _ = false

-- AND and OR are spread, and all else is a leaf
abbrev pub is_spread : Operator → Bool
is_spread operators.Or = true
is_spread operators.And = true
is_spread _ = false

abbrev pub is_leaf_layer : Expr-F Expr → Bool
is_leaf_layer (layers.Two operator left right) = not (is_spread operator)
is_leaf_layer _ = true

unfoldable pub is_leaf : Expr → Bool
is_leaf expr = is_leaf_layer (out-Expr expr)

-- OR has the branches of both sides
abbrev pub EitherSide : Type 0
EitherSide = (left right : Expr) → branches_in (exprs.Two operators.Or left right) ≡ branches_in left ++ branches_in right

-- AND has each branch of the left side with each of the right
abbrev pub BothSides : Type 0
BothSides = (left right : Expr) → branches_in (exprs.Two operators.And left right) ≡ crossed (branches_in left) (branches_in right)

-- all else is one branch
abbrev pub LeafAlone : Type 0
LeafAlone = (leaf : Expr) → is_leaf leaf ≡ true → branches_in leaf ≡ leaf_branch leaf ∷ []

-- a condition holds on a row for a vector of parameter values exactly where the vector meets a branch
abbrev pub HoldsWhereMet : Type 0
HoldsWhereMet = (given : Given) (condition : Option Expr) → Holds given condition ↔ (meets_some given (branches_of condition) ≡ true)

-- the same as an equation of tests
abbrev pub SameTest : Type 0
SameTest = (given : Given) (condition : Option Expr) → holds given condition ≡ meets_some given (branches_of condition)

-- Null is never allowed for a parameter
abbrev pub NullIsNotAllowed : Type 0
NullIsNotAllowed = (given : Given) (m : Match) → given.bucket m.name ≡ Null → allows given m ≡ false

-- an integer has signed 64 bits
abbrev pub IsSqlValue : Value → Type 0
IsSqlValue Null = Unit {0}
IsSqlValue (Int (pos n)) = n < 2 ^ 63
IsSqlValue (Int (negsuc n)) = n < 2 ^ 63
IsSqlValue (Text t) = Unit {0}

-- different pairs of a definition and a vector have different names; one of the vectors is known to be of integers of signed 64 bits
abbrev pub NamesDiffer : Type 0
NamesDiffer = (a b : List ℕ) (v w : List Value) → is_definition_name a ≡ true → is_definition_name b ≡ true → AllByRecursion IsSqlValue v
    → bucket_name_of a v ≡ bucket_name_of b w → (a ≡ b) × (v ≡ w)
