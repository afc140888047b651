use Rattle.std.proofs.Common.{drop}
use Rattle.std.specs.List.{AllByRecursion}
use Rattle.ps_store.specs.Numbers.{AreNumbered}
use Rattle.ps_store.proofs.numbers.have_numbers.Given as goal

-- where those that are left have 32 bits, all have
abbrev pub invariant-definitions : goal.invariant-definitions
invariant-definitions l = AllByRecursion AreNumbered (drop l.definition-index l.definition-items) → AllByRecursion AreNumbered l.definition-items
