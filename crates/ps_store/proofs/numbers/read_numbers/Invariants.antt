use Rattle.std.proofs.Common.{drop}
use Rattle.std.specs.List.{AllByRecursion}
use Rattle.ps_store.specs.Numbers.{IsNumbered}
use Rattle.ps_store.proofs.numbers.read_numbers.Given as goal

-- where those that are left have 32 bits, all have
abbrev pub invariant-queries : goal.invariant-queries
invariant-queries l = AllByRecursion IsNumbered (drop l.planned-index l.queries) → AllByRecursion IsNumbered l.queries
