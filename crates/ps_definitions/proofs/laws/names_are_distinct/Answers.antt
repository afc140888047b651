use Rattle.ps_definitions.proofs.DefinitionNames.{names_differ}
use Rattle.ps_definitions.proofs.laws.names_are_distinct.Goals as goal

pub returns : goal.returns
returns c = names_differ
