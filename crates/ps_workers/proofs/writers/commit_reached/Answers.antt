use Rattle.ps_workers.specs.Sharing.{terms_of}
use Rattle.ps_workers.proofs.Writer.{commits_by_event, commits_by_look}
use Rattle.ps_workers.proofs.writers.commit_reached.Goals as goal

pub returns-in-Ok-clause-commits : goal.returns-in-Ok-clause-commits
returns-in-Ok-clause-commits g c = λ next batch.
    let turned = c.commit_or_look-seat.ensures.turn in
    commits_by_event (terms_of c.args.place.now.lock.now) next batch turned.0 c.args.seat c.commit_or_look-seat.result.0 c.commit_or_look-seat.result.1 c.in-Ok.committed c.in-Ok.is turned.1

pub returns-in-Err-clause-commits : goal.returns-in-Err-clause-commits
returns-in-Err-clause-commits g c = λ next batch.
    let turned = c.commit_or_look-seat.ensures.turn in
    commits_by_look (terms_of c.args.place.now.lock.now) next batch turned.0 c.args.seat c.commit_or_look-seat.result.0 c.commit_or_look-seat.result.1 c.in-Err.look c.is_drained.result c.in-Err.is turned.1
    c.is_drained.ensures.0
