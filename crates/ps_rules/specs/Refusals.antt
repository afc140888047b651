-- Refusals that need no memory, so that no want of it stands in their place.
use Rattle.std.specs.Prelude.{ℕ, List, false, ◌≡◌, Result, Err}
use Rattle.std.specs.Str.{is_utf8}
use Rattle.ps_yaml.specs.declared.faults.YamlFault.TheVariants.{BadScalar}
use Rattle.ps_rules.specs.declared.faults.RulesFault.{RulesFault}
use Rattle.ps_rules.specs.declared.faults.RulesFault.TheVariants as faults

-- bytes that are no text
abbrev pub RefusesOtherBytes : {X : Type 0} → List ℕ → Result X RulesFault → Type 0
RefusesOtherBytes bytes result = is_utf8 bytes ≡ false → result ≡ Err (faults.Yaml (BadScalar 1 1))
