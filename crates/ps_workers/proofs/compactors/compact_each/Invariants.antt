use Rattle.std.proofs.Common.{◌≡◌, false, take}
use Rattle.ps_lock.specs.Words.{IsSeatOf, seen_by}
use Rattle.ps_store.specs.Histories.{has_deploy}
use Rattle.ps_workers.specs.Compacting.{HasCompacted}
use Rattle.ps_workers.specs.Sharing.{terms_of}
use Rattle.ps_workers.specs.Work.{HasWorked, IsOfCompactor}
use Rattle.ps_workers.proofs.compactors.compact_each.Given as goal

-- the compactor added Compacts alone, where no new rules came one of each bucket so far
abbrev pub invariant-buckets : goal.invariant-buckets
invariant-buckets g l = record {
  lock : IsSeatOf l.place.lock.now l.here;
  worked : HasWorked IsOfCompactor l.fn.seat l.here;
  compacted : has_deploy (seen_by l.here) ≡ false → HasCompacted (terms_of l.place.lock.now) (seen_by l.fn.seat) (seen_by l.here) (take l.name-index l.names);
}
