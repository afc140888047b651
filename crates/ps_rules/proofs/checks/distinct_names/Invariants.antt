use Rattle.std.proofs.Common.{◌≡◌, take, false}
use Rattle.ps_definitions.specs.Names.{output_names, has_repeated}
use Rattle.ps_rules.proofs.checks.distinct_names.Given as goal

-- the names that were seen, none of which stands twice
abbrev pub invariant-outputs : goal.invariant-outputs
invariant-outputs l = record { named : l.names ≡ output_names (take l.output-index l.outputs); differ : has_repeated l.names ≡ false }
