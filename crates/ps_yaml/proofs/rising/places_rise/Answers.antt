use Rattle.ps_yaml.proofs.Ordered.{places_rise}
use Rattle.ps_yaml.proofs.rising.places_rise.Goals as goal

pub returns : goal.returns
returns c = places_rise
