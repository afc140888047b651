use Rattle.std.proofs.Common.{◌≡◌, ◌+◌, length, vec_len}
use Rattle.ps_lock.specs.Words.{IsSeatOf, seen_by, own_entries_of}
use Rattle.ps_connections.specs.Taken.{HaveCome}
use Rattle.ps_connections.specs.Workers.{AreWorkersOf}
use Rattle.ps_connections.proofs.taking.take_connections.Given as goal

abbrev pub invariant-connections : goal.invariant-connections
invariant-connections g l =
    let D = g.D.Doors in record {
      lock : IsSeatOf l.service.lock.now l.seat;
      seen : seen_by l.seat ≡ seen_by l.fn.seat;
      own : own_entries_of l.seat ≡ own_entries_of l.fn.seat;
      place : D.place l.doors ≡ D.place l.fn.doors;
      closed : D.closed l.doors ≡ D.closed l.fn.doors;
      opened : D.opened l.doors ≡ D.opened l.fn.doors + length l.workers.items;
      count : length l.workers.items ≡ l.counter;
      sized : vec_len l.workers ≡ length l.workers.items;
      coming : HaveCome (D.coming l.fn.doors) (D.coming l.doors) (length l.workers.items);
      faults : D.faults l.doors ≡ D.faults l.fn.doors;
      workers : AreWorkersOf g.S.Source g.K.Sink g.C.Clock l.service.lock.now l.service.site.now l.service.clock.now (seen_by l.fn.seat) (D.closed l.fn.doors) (D.opened l.fn.doors) l.workers.items;
    }
