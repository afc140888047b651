use Rattle.std.proofs.Common.{◌≡◌, ◌-◌}
use Rattle.ps_sql.specs.Queries.{items, nothing_listed}
use Rattle.ps_sql.proofs.readers.items.Given as goal

-- what was read stands before what is left to read
abbrev pub invariant-items : goal.invariant-items
invariant-items l = items l.limit l.context l.limit nothing_listed l.fn.cursor ≡ items (l.limit - l._turn) l.context l.limit l.listed l.cursor
