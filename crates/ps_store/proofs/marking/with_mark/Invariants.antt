use Rattle.std.proofs.Common.{◌≡◌, ◌++◌}
use Rattle.ps_store.specs.StoreGenerations.{prefixed}
use Rattle.ps_store.proofs.marking.with_mark.Given as goal

-- with the names that are left, all are there
abbrev pub invariant-names : goal.invariant-names
invariant-names l = l.all ++ prefixed l.mark l.name-iterator.rest.items ≡ prefixed l.mark l.fn.names
