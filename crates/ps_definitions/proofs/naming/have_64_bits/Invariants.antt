use Rattle.std.proofs.Common.{drop}
use Rattle.std.specs.List.{AllByRecursion}
use Rattle.ps_definitions.specs.Laws.{IsSqlValue}
use Rattle.ps_definitions.proofs.naming.have_64_bits.Given as goal

-- where those that are left have 64 bits, all have
abbrev pub invariant-values : goal.invariant-values
invariant-values l = AllByRecursion IsSqlValue (drop l.value-index l.values) → AllByRecursion IsSqlValue l.values
