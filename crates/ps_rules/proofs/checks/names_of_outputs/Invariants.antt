use Rattle.std.proofs.Common.{◌≡◌, take}
use Rattle.ps_definitions.specs.Names.{output_names}
use Rattle.ps_rules.proofs.checks.names_of_outputs.Given as goal

-- the names that were seen
abbrev pub invariant-outputs : goal.invariant-outputs
invariant-outputs l = l.names ≡ output_names (take l.output-index l.outputs)
