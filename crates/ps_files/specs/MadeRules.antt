-- The rules that the made text is read as, and what holds of made transactions under them.
use Rattle.std.specs.Prelude.{◌≡◌, ℕ, ◌≤◌, true, false, [], ◌∷◌, Some, None, Ok, codes}
use Rattle.ps_queries.specs.declared.expressions.Expr.{Expr}
use Rattle.ps_queries.specs.declared.expressions.Expr.TheVariants as exprs
use Rattle.ps_queries.specs.declared.expressions.Operator.TheVariants as operators
use Rattle.ps_queries.specs.declared.queries.ParameterQuery.{ParameterQuery}
use Rattle.ps_queries.specs.declared.queries.DataQuery.{DataQuery}
use Rattle.ps_gen.specs.Made.{made_rules, made_input}
use Rattle.ps_definitions.specs.declared.branches.Branch.{Branch}
use Rattle.ps_definitions.specs.declared.queries.Planned.{Planned}
use Rattle.ps_definitions.specs.declared.definitions.Definition.{Definition}
use Rattle.ps_definitions.specs.RuleSets.{RuleSet}
use Rattle.ps_files.specs.Making.{made_limit}
use Rattle.ps_files.specs.ChangeFiles.{admitted}
use Rattle.ps_files.specs.RulesFaults.{rules_of_file}

-- owner = bucket.u
abbrev pub owner_column : Expr
owner_column = exprs.Column (codes "owner")

abbrev pub user_parameter : Expr
user_parameter = exprs.Bucket (codes "u")

abbrev pub is_owned : Expr
is_owned = exprs.Two operators.Equal owner_column user_parameter

-- SELECT request.user_id() AS u
abbrev pub users : ParameterQuery
users = record { outputs = record { name = codes "u"; expr = exprs.UserId } ∷ []; table = None; condition = None }

-- SELECT * FROM items WHERE owner = bucket.u
abbrev pub owned_items : DataQuery
owned_items = record {
  star = true;
  outputs = [];
  table = codes "items";
  kind = codes "items";
  condition = Some is_owned;
}

-- the parameter is the owner
abbrev pub by_owner : Branch
by_owner = record { matches = record { name = codes "u"; other = owner_column; listed = false } ∷ []; rest = [] }

abbrev pub planned_items : Planned
planned_items = record { query = owned_items; number = 1; branches = by_owner ∷ [] }

abbrev pub mine : Definition
mine = record { name = codes "mine"; names = codes "u" ∷ []; parameters = users ∷ []; queries = planned_items ∷ [] }

abbrev pub made_rule_set : RuleSet
made_rule_set = record { definitions = mine ∷ []; warnings = [] }

-- ---- laws

-- the made text is read as these rules
abbrev pub MadeRulesAreRead : Type 0
MadeRulesAreRead = rules_of_file made_rules ≡ Ok made_rule_set

-- no change of so many made transactions passes a limit under them
abbrev pub MadeInputIsAdmitted : Type 0
MadeInputIsAdmitted = (n : ℕ) → n ≤ made_limit → admitted made_rule_set.definitions [] (made_input n) ≡ Ok (made_input n)
