use Rattle.ps_core.proofs.StoreSteps.{committed_so}
use Rattle.ps_core.proofs.storing.commit.Goals as goal

pub returns-in-Ok : goal.returns-in-Ok
returns-in-Ok c = λ fixed play stands. committed_so fixed play c.commit.new.self c.in-Ok.checkpoint (c.in-Ok.ensures fixed play.history stands)
