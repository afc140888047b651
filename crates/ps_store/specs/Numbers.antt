-- The numbers of data queries, one by one.
use Rattle.std.specs.Prelude.{◌<◌, ◌^◌}
use Rattle.std.specs.List.{AllByRecursion}
use Rattle.ps_definitions.specs.declared.definitions.Definition.{Definition}
use Rattle.ps_definitions.specs.declared.queries.Planned.{Planned}

abbrev pub IsNumbered : Planned → Type 0
IsNumbered planned = planned.number < 2 ^ 32

abbrev pub AreNumbered : Definition → Type 0
AreNumbered definition = AllByRecursion IsNumbered definition.queries
