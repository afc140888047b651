use Rattle.std.proofs.Common.{◌≡◌, ℕ, ◌+◌, ◌-◌, ◌*◌, ◌^◌}
use Rattle.ps_sql.specs.declared.contexts.Level.{Level}
use Rattle.ps_sql.specs.declared.contexts.Level.TheVariants as levels
use Rattle.ps_sql.specs.Grammar.{arguments, expr, more, more_arguments, operand_at}
use Rattle.ps_sql.proofs.grammars.+grammar.Given as goal

-- A bracket goes down by one in depth; within a depth each rule has a rank above those that it calls.
abbrev rank_of : Level → ℕ
rank_of levels.Or = 21
rank_of levels.And = 17
rank_of levels.Same = 11
rank_of levels.Order = 7
rank_of levels.Joining = 3

abbrev pub decreases-arguments : goal.decreases-arguments
decreases-arguments l = l.depth * 2 ^ 70 + 1 * 2 ^ 64

abbrev pub decreases-call : goal.decreases-call
decreases-call l = l.depth * 2 ^ 70 + 1 * 2 ^ 64 + 1

abbrev pub decreases-conjunction : goal.decreases-conjunction
decreases-conjunction l = l.depth * 2 ^ 70 + 21 * 2 ^ 64

abbrev pub decreases-equality : goal.decreases-equality
decreases-equality l = l.depth * 2 ^ 70 + 15 * 2 ^ 64

abbrev pub decreases-expr : goal.decreases-expr
decreases-expr l = l.depth * 2 ^ 70

abbrev pub decreases-joining : goal.decreases-joining
decreases-joining l = l.depth * 2 ^ 70 + 7 * 2 ^ 64

abbrev pub decreases-keyword_value : goal.decreases-keyword_value
decreases-keyword_value l = l.depth * 2 ^ 70 + 2 * 2 ^ 64

abbrev pub decreases-mark_value : goal.decreases-mark_value
decreases-mark_value l = l.depth * 2 ^ 70 + 2 * 2 ^ 64

abbrev pub decreases-negation : goal.decreases-negation
decreases-negation l = l.depth * 2 ^ 70 + 16 * 2 ^ 64 + l.turns

abbrev pub decreases-negatable : goal.decreases-negatable
decreases-negatable l = l.depth * 2 ^ 70 + 17 * 2 ^ 64

abbrev pub decreases-operand : goal.decreases-operand
decreases-operand l = l.depth * 2 ^ 70 + (rank_of l.level + 1) * 2 ^ 64

abbrev pub decreases-operators : goal.decreases-operators
decreases-operators l = l.depth * 2 ^ 70 + (rank_of l.level + 3) * 2 ^ 64

abbrev pub decreases-ordering : goal.decreases-ordering
decreases-ordering l = l.depth * 2 ^ 70 + 11 * 2 ^ 64

abbrev pub decreases-plain_name : goal.decreases-plain_name
decreases-plain_name l = l.depth * 2 ^ 70 + 2 * 2 ^ 64

abbrev pub decreases-prime : goal.decreases-prime
decreases-prime l = l.depth * 2 ^ 70 + 3 * 2 ^ 64

abbrev pub decreases-step : goal.decreases-step
decreases-step l = l.depth * 2 ^ 70 + (rank_of l.level + 2) * 2 ^ 64

-- what was read stands before what is left to read
abbrev pub invariant-arguments-arguments : goal.invariant-arguments-arguments
invariant-arguments-arguments l =
    let inner = expr l.context l.limit l.depth in
    arguments l.limit inner l.fn.cursor ≡ more_arguments (l.limit - l._turn) inner l.read l.cursor

abbrev pub invariant-operators-operators : goal.invariant-operators-operators
invariant-operators-operators l =
    let operand = operand_at l.level l.context l.limit (expr l.context l.limit l.depth) in
    more l.level l.limit operand l.fn.first l.fn.cursor ≡ more l.level (l.limit - l._turn) operand l.left l.cursor
