use Rattle.std.proofs.Common.{◌≡◌, ℕ, ◌+◌, ◌-◌, ◌<◌, length, vec_len, refl, sym, ◌∙◌, arith, subst}
use Rattle.std.specs.Vec.Iter.{into_iter_items}
use Rattle.ps_doors.specs.Connections.{IsOut}
use Rattle.ps_lock.specs.Words.{seen_by, own_entries_of}
use Rattle.ps_lock.proofs.Prefixes.{prefix_self, prefix_trans}
use Rattle.ps_workers.specs.Sharing.{fixed_of}
use Rattle.ps_connections.specs.Answers.{Upshot, StaysAnswered}
use Rattle.ps_connections.proofs.Closed.{next_lacks, none_closed}
use Rattle.ps_connections.proofs.Crew.{next_ended, next_closed, next_there}
use Rattle.ps_connections.proofs.closing.close_all.Goals as goal

pub workers-init : goal.workers-init
workers-init g c =
    let D = g.D.Doors in
    let gives = c.into_iter-worker-iterator.ensures.into_iter_gives in
    let lock = c.args.service.now.lock.now in
    let first = D.opened c.args.doors.now - vec_len c.args.workers in
    let before = seen_by c.args.seat.now in
    let n : first + 0 ≡ first = omega arith in record {
      seat = c.requires.seat;
      saw = prefix_self before;
      place = refl;
      opened = refl;
      coming = refl;
      faults = refl;
      workers = (
        0,
        omega (arith, gives.1),
        rw (n, gives.0) c.requires.workers,
        none_closed (StaysAnswered (fixed_of lock) c.args.service.now.site.now (g.C.Clock.may_give c.args.service.now.clock.now) (length before) before) first (D.closed c.args.doors.now) (own_entries_of c.args.seat.now),
      );
    }

pub finish-from-requires : goal.finish-from-requires
finish-from-requires g c =
    let D = g.D.Doors in
    let inv = c.workers.invariant in
    let first = D.opened c.args.doors.now - vec_len c.args.workers in
    next_there g.S.Source g.K.Sink g.C.Clock c.args.service.now.lock.now c.args.service.now.site.now c.args.service.now.clock.now (seen_by c.args.seat.now) (D.closed c.args.doors.now)
    (first + inv.workers.0) (into_iter_items c.workers.worker-iterator) (into_iter_items c.next.new.self) c.in-Some.worker inv.workers.2 c.in-Some.ensures.steps.0

pub join_in-requires : goal.join_in-requires
join_in-requires g c =
    let D = g.D.Doors in
    let inv = c.workers.invariant in
    let first = D.opened c.args.doors.now - vec_len c.args.workers in
    let ended = next_ended g.S.Source g.K.Sink g.C.Clock c.args.service.now.lock.now c.args.service.now.site.now c.args.service.now.clock.now (seen_by c.args.seat.now) (D.closed c.args.doors.now)
    (first + inv.workers.0) (into_iter_items c.workers.worker-iterator) (into_iter_items c.next.new.self) c.in-Some.worker c.finish-from.result inv.workers.2 c.in-Some.ensures.steps.0 c.finish-from.ensures in
    (inv.seat, ended.0)

pub close-requires-clause-one : goal.close-requires-clause-one
close-requires-clause-one g c =
    let D = g.D.Doors in
    let inv = c.workers.invariant in
    let first = D.opened c.args.doors.now - vec_len c.args.workers in
    let ended = next_ended g.S.Source g.K.Sink g.C.Clock c.args.service.now.lock.now c.args.service.now.site.now c.args.service.now.clock.now (seen_by c.args.seat.now) (D.closed c.args.doors.now)
    (first + inv.workers.0) (into_iter_items c.workers.worker-iterator) (into_iter_items c.next.new.self) c.in-Some.worker c.finish-from.result inv.workers.2 c.in-Some.ensures.steps.0 c.finish-from.ensures in
    ended.1.sink_number ∙ sym ended.1.source_number

pub close-requires-clause-out : goal.close-requires-clause-out
close-requires-clause-out g c =
    let D = g.D.Doors in
    let inv = c.workers.invariant in
    let lock = c.args.service.now.lock.now in
    let site = c.args.service.now.site.now in
    let clock = c.args.service.now.clock.now in
    let first = D.opened c.args.doors.now - vec_len c.args.workers in
    let before = seen_by c.args.seat.now in
    let n = first + inv.workers.0 in
    let ended = next_ended g.S.Source g.K.Sink g.C.Clock lock site clock before (D.closed c.args.doors.now)
    n (into_iter_items c.workers.worker-iterator) (into_iter_items c.next.new.self) c.in-Some.worker c.finish-from.result inv.workers.2 c.in-Some.ensures.steps.0 c.finish-from.ensures in
    let lacks = next_lacks (StaysAnswered (fixed_of lock) site (g.C.Clock.may_give clock) (length before) (seen_by c.workers.seat)) first inv.workers.0 (D.closed c.args.doors.now) (D.closed c.workers.doors)
    c.workers.short (own_entries_of c.args.seat.now) (own_entries_of c.workers.seat) inv.workers.3 ended.1.lacks in
    let below : n < D.opened c.workers.doors = let room = c.requires.opened in let count = inv.workers.1 in let left = c.in-Some.ensures.steps.1 in let was = inv.opened in omega arith in
    let P : ℕ → Type 0 = λ k. IsOut k (D.opened c.workers.doors) (D.closed c.workers.doors) in
    subst P (sym ended.1.source_number) (below, lacks)

pub workers-preserved : goal.workers-preserved
workers-preserved g c =
    let D = g.D.Doors in
    let inv = c.workers.invariant in
    let lock = c.args.service.now.lock.now in
    let site = c.args.service.now.site.now in
    let clock = c.args.service.now.clock.now in
    let may_give = g.C.Clock.may_give clock in
    let first = D.opened c.args.doors.now - vec_len c.args.workers in
    let before = seen_by c.args.seat.now in
    let mid = seen_by c.workers.seat in
    let after = seen_by c.join_in.new.seat in
    let closed = D.closed c.args.doors.now in
    let it = c.finish-from.result in
    let done = inv.workers.0 in
    let ended = next_ended g.S.Source g.K.Sink g.C.Clock lock site clock before closed
    (first + done) (into_iter_items c.workers.worker-iterator) (into_iter_items c.next.new.self) c.in-Some.worker it inv.workers.2 c.in-Some.ensures.steps.0 c.finish-from.ensures in
    let came : Upshot = record { end = it.end; own = own_entries_of it.seat } in
    let more = next_closed g.S.Source g.K.Sink (fixed_of lock) site may_give before mid (seen_by it.seat) after first done closed (D.closed c.workers.doors) c.workers.short
    (own_entries_of c.args.seat.now) (own_entries_of c.workers.seat) came it.from it.to inv.workers.3 ended.1 c.join_in.ensures.one.0 c.join_in.ensures.one.1 in
    let next : first + (done + 1) ≡ first + done + 1 = omega arith in record {
      seat = c.join_in.ensures.lock;
      saw = prefix_trans before mid after inv.saw c.join_in.ensures.one.0;
      place = c.close.ensures.place ∙ inv.place;
      opened = c.close.ensures.opened ∙ inv.opened;
      coming = c.close.ensures.coming ∙ inv.coming;
      faults = c.close.ensures.faults ∙ inv.faults;
      workers = (
        done + 1,
        (let count = inv.workers.1 in let left = c.in-Some.ensures.steps.1 in omega arith),
        rw next ended.2,
        rw (c.close.ensures.closed, c.with_end-short.ensures, c.join_in.ensures.own) more,
      );
    }
