use Rattle.serde_json.specs.View.{view}
use Rattle.ps_values.proofs.Plainness.{made_floatless, made_nests, made_stays}
use Rattle.ps_values.proofs.conversions.plain.Goals as goal

pub returns-clause-floatless : goal.returns-clause-floatless
returns-clause-floatless c = made_floatless _ (view c.args.json.now) c.in_ok-made.ensures

pub returns-clause-nests : goal.returns-clause-nests
returns-clause-nests c = made_nests _ (view c.args.json.now) c.in_ok-made.ensures

pub returns-clause-stays : goal.returns-clause-stays
returns-clause-stays c = made_stays _ (view c.args.json.now) c.in_ok-made.ensures
