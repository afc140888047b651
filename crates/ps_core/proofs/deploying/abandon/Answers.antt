use Rattle.ps_core.proofs.NewRules.{abandoned_so, none_to_abandon}
use Rattle.ps_core.proofs.deploying.abandon.Goals as goal

pub returns-in-Ok : goal.returns-in-Ok
returns-in-Ok c = λ fixed play stands. abandoned_so fixed play c.abandon.new.self c.in-Ok.generation (c.in-Ok.ensures fixed play.history stands)
