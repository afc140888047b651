use Rattle.std.proofs.Common.{◌≡◌, take}
use Rattle.ps_queries.proofs.expressions.+copying.Given as goal

-- what was copied so far
abbrev pub invariant-copy_exprs-copies : goal.invariant-copy_exprs-copies
invariant-copy_exprs-copies l = l.copies ≡ take l.one-index l.all
