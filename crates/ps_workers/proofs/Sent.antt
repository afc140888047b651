-- A shared store may go to another thread, as may all that it holds. The proof goes up from its expressions, since one search from the store down to them is too long.
use denote.Param.Send.{IsSend, IsSync, sendable}
use Rattle.std.proofs.Crossing.{crosses}
use Rattle.std.proofs.MapsCrossing as maps
use Rattle.ps_data.proofs.lists.Items.TheSendSync as items
use Rattle.ps_data.proofs.texts.Text.TheSendSync as texts
use Rattle.ps_data.proofs.ids.Position.TheSendSync as positions
use Rattle.ps_data.proofs.ids.OpId.TheSendSync as ops
use Rattle.ps_data.proofs.boxes.Boxed.TheSendSync as boxes
use Rattle.ps_queries.proofs.expressions.Function.TheSendSync as functions
use Rattle.ps_queries.proofs.expressions.Operator.TheSendSync as operators
use Rattle.ps_queries.proofs.expressions.Expr.TheLaws.TheKnot.{send-Expr, sync-Expr}
use Rattle.ps_queries.specs.contracts.expressions.Expr as Expr
use Rattle.ps_queries.specs.contracts.queries.Output as Output
use Rattle.ps_queries.specs.contracts.queries.ParameterQuery as ParameterQuery
use Rattle.ps_queries.specs.contracts.queries.DataQuery as DataQuery
use Rattle.ps_definitions.specs.contracts.matches.Match as Match
use Rattle.ps_definitions.specs.contracts.branches.Branch as Branch
use Rattle.ps_definitions.specs.contracts.queries.Planned as Planned
use Rattle.ps_definitions.specs.contracts.definitions.Definition as Definition
use Rattle.ps_definitions.specs.contracts.rule_sets.Rules as Rules
use Rattle.ps_definitions.proofs.tables.Tables.TheSendSync as tables
use Rattle.ps_definitions.proofs.warnings.Warning.TheSendSync as warnings
use Rattle.ps_params.specs.contracts.indexes.ParameterIndex as ParameterIndex
use Rattle.ps_params.proofs.kept.Kept.TheSendSync as kept
use Rattle.ps_write_cp.proofs.numbers.WriteCheckpoints.TheSendSync as numbers
use Rattle.ps_store.specs.contracts.building.Building as Building
use Rattle.ps_store.specs.contracts.fixed.Shared as Shared
use Rattle.ps_store.specs.contracts.generations.Generations as Generations
use Rattle.ps_store.specs.contracts.stores.Store as Store
use Rattle.ps_store.proofs.fixed.Limits.TheSendSync as limits
use Rattle.ps_store.proofs.generations.Ending.TheSendSync as endings
use Rattle.ps_store.proofs.logs.Logs.TheSendSync as logs
use Rattle.ps_store.proofs.rows.Rows.TheSendSync as rows
use Rattle.ps_store.proofs.tails.Tail.TheSendSync as tails
use Rattle.ps_store.proofs.totals.Totals.TheSendSync as totals
use Rattle.ps_store.proofs.stores.Checkpoint.TheSendSync as checkpoints
use Rattle.ps_store.proofs.waiting.Waiting.TheSendSync as waiting
use Rattle.ps_workers.specs.contracts.shared.SharedStore as SharedStore

expr : IsSend Expr.the_row
expr = search (sendable, send-Expr, texts.the_send, functions.the_field_send, operators.the_field_send, items.the_send, boxes.the_send) depth 20

expr_field : IsSend Expr.the_field.row
expr_field = search (sendable, send-Expr, texts.the_send, functions.the_field_send, operators.the_field_send, items.the_send, boxes.the_send) depth 20

output : IsSend Output.the_row
output = search (sendable, expr_field, texts.the_send) depth 20

parameter_query : IsSend ParameterQuery.the_row
parameter_query = search (sendable, crosses, output, expr, items.the_send, texts.the_send) depth 20

data_query_field : IsSend DataQuery.the_field.row
data_query_field = search (sendable, crosses, output, expr, items.the_send, texts.the_send) depth 20

match : IsSend Match.the_row
match = search (sendable, expr_field, texts.the_send) depth 20

branch : IsSend Branch.the_row
branch = search (sendable, match, expr, items.the_send) depth 20

planned : IsSend Planned.the_row
planned = search (sendable, data_query_field, branch, items.the_send) depth 20

definition : IsSend Definition.the_row
definition = search (sendable, planned, parameter_query, items.the_send, texts.the_send) depth 20

rules : IsSend Rules.the_row
rules = search (sendable, definition, warnings.the_send, items.the_send, tables.the_field_send) depth 20

-- their rules are shared, so threads may look at them side by side
expr_sync : IsSync Expr.the_row
expr_sync = search (sendable, sync-Expr, texts.the_sync, functions.the_field_sync, operators.the_field_sync, items.the_sync, boxes.the_sync) depth 20

expr_field_sync : IsSync Expr.the_field.row
expr_field_sync = search (sendable, sync-Expr, texts.the_sync, functions.the_field_sync, operators.the_field_sync, items.the_sync, boxes.the_sync) depth 20

output_sync : IsSync Output.the_row
output_sync = search (sendable, expr_field_sync, texts.the_sync) depth 20

parameter_query_sync : IsSync ParameterQuery.the_row
parameter_query_sync = search (sendable, crosses, output_sync, expr_sync, items.the_sync, texts.the_sync) depth 20

data_query_field_sync : IsSync DataQuery.the_field.row
data_query_field_sync = search (sendable, crosses, output_sync, expr_sync, items.the_sync, texts.the_sync) depth 20

match_sync : IsSync Match.the_row
match_sync = search (sendable, expr_field_sync, texts.the_sync) depth 20

branch_sync : IsSync Branch.the_row
branch_sync = search (sendable, match_sync, expr_sync, items.the_sync) depth 20

planned_sync : IsSync Planned.the_row
planned_sync = search (sendable, data_query_field_sync, branch_sync, items.the_sync) depth 20

definition_sync : IsSync Definition.the_row
definition_sync = search (sendable, planned_sync, parameter_query_sync, items.the_sync, texts.the_sync) depth 20

rules_sync : IsSync Rules.the_row
rules_sync = search (sendable, definition_sync, warnings.the_sync, items.the_sync, tables.the_field_sync) depth 20

index_field : IsSend ParameterIndex.the_field.row
index_field = search (sendable, rules, kept.the_send, positions.the_field_send) depth 20

shared_field : IsSend Shared.the_field.row
shared_field = search (sendable, crosses, rules, rules_sync, limits.the_field_send) depth 20

building : IsSend Building.the_row
building = search (sendable, crosses, shared_field, index_field, logs.the_field_send, rows.the_field_send, texts.the_send, waiting.the_send) depth 20

generations_field : IsSend Generations.the_field.row
generations_field = search (sendable, crosses, maps.crosses, building, shared_field, texts.the_send, endings.the_send) depth 20

store_field : IsSend Store.the_field.row
store_field = search (sendable, crosses, shared_field, index_field, generations_field, logs.the_field_send, rows.the_field_send, tails.the_field_send, totals.the_field_send, checkpoints.the_field_send, positions.the_field_send, ops.the_field_send, numbers.the_send) depth 40

pub shared_send : IsSend SharedStore.the_row
shared_send = search (sendable, crosses, store_field) depth 40
