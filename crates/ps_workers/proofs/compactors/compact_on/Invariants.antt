use Rattle.std.proofs.Common.{◌≤◌}
use Rattle.ps_lock.specs.Words.{IsSeatOf}
use Rattle.ps_workers.specs.Work.{HasWorked, IsOfCompactor}
use Rattle.ps_workers.proofs.compactors.compact_on.Given as goal

-- the compactor added Compacts alone, and its bell was closed so often or more
abbrev pub invariant-rounds : goal.invariant-rounds
invariant-rounds g l = record {
  lock : IsSeatOf l.place.lock.now l.here;
  worked : HasWorked IsOfCompactor l.fn.seat l.here;
  closings : g.B.Bell.closings l.fn.bell ≤ g.B.Bell.closings l.bell;
}
