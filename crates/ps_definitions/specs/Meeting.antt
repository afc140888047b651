-- When a vector of parameter values meets a branch.
use Rattle.std.specs.Prelude.{Bool, false, ◌&&◌, if◌then◌else◌, List, Option, Some, None}
use Rattle.std.specs.List.{list_any, list_all}
use Rattle.serde_json.specs.Data.{Items}
use Rattle.ps_data.specs.declared.values.Value.{Value}
use Rattle.ps_data.specs.Values.{equal_sql}
use Rattle.ps_queries.specs.declared.expressions.Expr.{Expr}
use Rattle.ps_queries.specs.Meaning.{Given, value_of, is_true, any_equals, array_of, holds}
use Rattle.ps_definitions.specs.declared.matches.Match.{Match}
use Rattle.ps_definitions.specs.declared.branches.Branch.{Branch}

-- a value is among the elements of an array
abbrev pub is_among : Value → Option Items → Bool
is_among x None = false
is_among x (Some items) = any_equals x items

-- the value of a match's parameter equals its other side, or is among its elements
abbrev pub allows : Given → Match → Bool
allows given m = if m.listed then is_among (given.bucket m.name) (array_of (value_of given m.other)) else is_true (equal_sql (given.bucket m.name) (value_of given m.other))

-- all matches allow the vector's values, and all other leaves hold
abbrev pub meets : Given → Branch → Bool
meets given branch = list_all (allows given) branch.matches && list_all (λ (e : Expr). holds given (Some e)) branch.rest

-- some branch is met
abbrev pub meets_some : Given → List Branch → Bool
meets_some given branches = list_any (meets given) branches
