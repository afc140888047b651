use Rattle.std.proofs.Common.{Result, subst}
use Rattle.ps_workers.specs.declared.ends.WorkEnd.{WorkEnd}
use Rattle.ps_workers.specs.Sharing.{fixed_of}
use Rattle.ps_workers.specs.Work.{HasWritten, FeedsAndWrites}
use Rattle.ps_workers.specs.Writing.{FeedsAll}
use Rattle.ps_workers.proofs.Writer.{after_feeding, work_handed}
use Rattle.ps_workers.proofs.writers.feed_and_write.Goals as goal
use Rattle.ps_workers.proofs.writers.feed_and_write.Goals.{in-Ok, in-Err}

pub returns-clause-work : goal.returns-clause-work
returns-clause-work g c =
    let fixed = fixed_of c.args.lock.now in
    let given = c.args.transactions.items in
    let between = c.feed_all-seat.result.0 in
    let next = c.args.next in
    let fed = c.feed_all-seat.ensures.feeds next c.args.batch in
    elim c.match-fed.branch [
      | in-Ok w ↦
          let all : HasWritten next c.args.batch given c.args.seat between = subst (λ (r : Result (Unit {0}) WorkEnd). FeedsAll fixed next given c.args.batch c.args.seat between r) w.in-Ok.is fed in
          work_handed fixed next given c.args.batch c.args.seat w.write_all.result.0 w.write_all.result.1 c.match-fed.seat w.seat-is
          (after_feeding fixed next given c.args.batch c.args.seat between w.write_all.result.0 w.write_all.result.1 all w.write_all.ensures.writes)
      | in-Err w ↦
          let stopped : FeedsAndWrites fixed next given c.args.batch c.args.seat between w.in-Err.end = subst (λ (r : Result (Unit {0}) WorkEnd). FeedsAll fixed next given c.args.batch c.args.seat between r) w.in-Err.is fed in
          work_handed fixed next given c.args.batch c.args.seat between w.in-Err.end c.match-fed.seat w.seat-is stopped
    ]
