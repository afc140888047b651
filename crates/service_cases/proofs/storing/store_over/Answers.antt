use Rattle.ps_files.specs.ReadingChanges.{usual}
use Rattle.service_cases.proofs.storing.store_over.Goals as goal

pub returns-in-Ok : goal.returns-in-Ok
returns-in-Ok c =
    let committed = c.in-Ok.ensures.2 in
    (usual c.args.rules, committed.history, committed.stands)
