use Rattle.ps_lock.specs.Words.{IsSeatOf}
use Rattle.ps_workers.specs.Work.{HasWorked, IsOfCompactor}
use Rattle.ps_workers.proofs.compactors.sweep.Given as goal

-- the compactor added Compacts alone
abbrev pub invariant-slices : goal.invariant-slices
invariant-slices g l = record {
  lock : IsSeatOf l.place.lock.now l.here;
  worked : HasWorked IsOfCompactor l.fn.seat l.here;
}
