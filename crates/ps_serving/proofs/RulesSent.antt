-- Rules may go to another thread, as may all that they hold. The proof goes up from their expressions, since one search from the rules down to them is too long.
use denote.Param.Send.{IsSend, sendable}
use Rattle.std.proofs.Crossing.{crosses}
use Rattle.ps_data.proofs.lists.Items.TheSendSync as items
use Rattle.ps_data.proofs.texts.Text.TheSendSync as texts
use Rattle.ps_data.proofs.boxes.Boxed.TheSendSync as boxes
use Rattle.ps_queries.proofs.expressions.Function.TheSendSync as functions
use Rattle.ps_queries.proofs.expressions.Operator.TheSendSync as operators
use Rattle.ps_queries.proofs.expressions.Expr.TheLaws.TheKnot.{send-Expr}
use Rattle.ps_queries.specs.contracts.expressions.Expr as Expr
use Rattle.ps_queries.specs.contracts.queries.Output as Output
use Rattle.ps_queries.specs.contracts.queries.ParameterQuery as ParameterQuery
use Rattle.ps_queries.specs.contracts.queries.DataQuery as DataQuery
use Rattle.ps_definitions.specs.contracts.matches.Match as Match
use Rattle.ps_definitions.specs.contracts.branches.Branch as Branch
use Rattle.ps_definitions.specs.contracts.queries.Planned as Planned
use Rattle.ps_definitions.specs.contracts.definitions.Definition as Definition
use Rattle.ps_definitions.specs.contracts.rule_sets.Rules as Rules
use Rattle.ps_definitions.proofs.tables.Tables.TheSendSync as tables
use Rattle.ps_definitions.proofs.warnings.Warning.TheSendSync as warnings
use Rattle.ps_workers.specs.contracts.stages.NextRules as NextRules

expr : IsSend Expr.the_row
expr = search (sendable, send-Expr, texts.the_send, functions.the_field_send, operators.the_field_send, items.the_send, boxes.the_send) depth 20

expr_field : IsSend Expr.the_field.row
expr_field = search (sendable, send-Expr, texts.the_send, functions.the_field_send, operators.the_field_send, items.the_send, boxes.the_send) depth 20

output : IsSend Output.the_row
output = search (sendable, expr_field, texts.the_send) depth 20

parameter_query : IsSend ParameterQuery.the_row
parameter_query = search (sendable, crosses, output, expr, items.the_send, texts.the_send) depth 20

data_query_field : IsSend DataQuery.the_field.row
data_query_field = search (sendable, crosses, output, expr, items.the_send, texts.the_send) depth 20

match : IsSend Match.the_row
match = search (sendable, expr_field, texts.the_send) depth 20

branch : IsSend Branch.the_row
branch = search (sendable, match, expr, items.the_send) depth 20

planned : IsSend Planned.the_row
planned = search (sendable, data_query_field, branch, items.the_send) depth 20

definition : IsSend Definition.the_row
definition = search (sendable, planned, parameter_query, items.the_send, texts.the_send) depth 20

rules_field : IsSend Rules.the_field.row
rules_field = search (sendable, definition, warnings.the_send, items.the_send, tables.the_field_send) depth 20

-- and so may next rules
pub next_send : IsSend NextRules.the_row
next_send = search (sendable, crosses, rules_field) depth 20
