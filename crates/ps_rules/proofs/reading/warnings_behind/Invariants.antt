use Rattle.std.proofs.Common.{◌≡◌, ◌++◌}
use Rattle.ps_rules.proofs.reading.warnings_behind.Given as goal

-- those that were moved, and those that are left
abbrev pub invariant-more : goal.invariant-more
invariant-more l = l.fn.before ++ l.fn.more ≡ l.both ++ l.warning-iterator.rest.items
