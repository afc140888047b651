use Rattle.std.proofs.Common.{◌≡◌, ℕ, ◌+◌, ◌-◌, length, vec_len}
use Rattle.std.specs.Vec.Iter.{into_iter_items, into_iter_len}
use mathlib.Core.List.{IsPrefix}
use Rattle.ps_lock.specs.Words.{IsSeatOf, seen_by, own_entries_of}
use Rattle.ps_workers.specs.Sharing.{fixed_of}
use Rattle.ps_connections.specs.Answers.{HaveServed, StaysAnswered}
use Rattle.ps_connections.specs.Workers.{AreWorkersOf}
use Rattle.ps_connections.proofs.closing.close_all.Given as goal

abbrev pub invariant-workers : goal.invariant-workers
invariant-workers g l =
    let D = g.D.Doors in
    let lock = l.service.lock.now in
    let site = l.service.site.now in
    let clock = l.service.clock.now in
    let first = D.opened l.fn.doors - vec_len l.fn.workers in
    let before = seen_by l.fn.seat in record {
      seat : IsSeatOf lock l.seat;
      saw : IsPrefix before (seen_by l.seat);
      place : D.place l.doors ≡ D.place l.fn.doors;
      opened : D.opened l.doors ≡ D.opened l.fn.doors;
      coming : D.coming l.doors ≡ D.coming l.fn.doors;
      faults : D.faults l.doors ≡ D.faults l.fn.doors;
      workers : (done : ℕ) × (done + into_iter_len l.worker-iterator ≡ vec_len l.fn.workers)
          × AreWorkersOf g.S.Source g.K.Sink g.C.Clock lock site clock before (D.closed l.fn.doors) (first + done) (into_iter_items l.worker-iterator)
          × HaveServed (StaysAnswered (fixed_of lock) site (g.C.Clock.may_give clock) (length before) (seen_by l.seat)) first (D.closed l.fn.doors) (D.closed l.doors) done l.short
          (own_entries_of l.fn.seat) (own_entries_of l.seat);
    }
