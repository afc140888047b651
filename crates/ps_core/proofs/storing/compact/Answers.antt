use Rattle.ps_core.proofs.StoreSteps.{compacted_so}
use Rattle.ps_core.proofs.storing.compact.Goals as goal

pub returns-in-Ok : goal.returns-in-Ok
returns-in-Ok c = λ fixed play stands. compacted_so fixed play c.compact.new.self c.args.bucket.now c.in-Ok.report (c.in-Ok.ensures fixed play.history stands)
