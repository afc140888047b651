use Rattle.ps_definitions.proofs.Spreads.{branches-Or, branches-And, branches-leaf}
use Rattle.ps_definitions.proofs.laws.spread_as_written.Goals as goal

pub returns : goal.returns
returns c = record { either = branches-Or; both = branches-And; leaf = branches-leaf }
