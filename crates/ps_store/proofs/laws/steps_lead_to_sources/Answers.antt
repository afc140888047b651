use Rattle.ps_store.proofs.Fronts.{steps_lead}
use Rattle.ps_store.proofs.laws.steps_lead_to_sources.Goals as goal

pub returns : goal.returns
returns c = steps_lead
