use Rattle.std.proofs.Common.{ap, ◌∙◌}
use Rattle.serde_json.specs.View.{view}
use Rattle.serde_json.specs.Written.{has_float}
use Rattle.ps_values.proofs.Faults.{plain_floatless}
use Rattle.ps_values.proofs.conversions.plain_json.Goals as goal

pub returns-in_ok-plain_value-in-Some-clause-floatless : goal.returns-in_ok-plain_value-in-Some-clause-floatless
returns-in_ok-plain_value-in-Some-clause-floatless c = ap has_float c.in_ok-plain_value-in-Some.ensures ∙ plain_floatless (view c.in-Some.json)
