use Rattle.std.proofs.Common.{◌≡◌, ℕ, ◌+◌, List, [], ◌∷◌, ◌++◌, length, Some, Ok, refl, ap, sym, ◌∙◌, arith, subst, length-append, vec_len, None}
use Rattle.ps_doors.specs.Connections.{AreEnds, IsFresh}
use Rattle.ps_doors.specs.Doors.{Comes}
use Rattle.ps_lock.specs.Words.{seen_by}
use Rattle.ps_store.specs.declared.events.Event.{Event}
use Rattle.ps_connections.specs.Taken.{HaveCome}
use Rattle.ps_connections.specs.Workers.{IsAtWork, IsWorkerOf, AreWorkersOf}
use Rattle.ps_connections.proofs.Coming.{no_change, no_more, one_came}
use Rattle.ps_connections.proofs.Crew.{workers_more}
use Rattle.ps_connections.proofs.taking.take_connections.Goals as goal

pub connections-preserved : goal.connections-preserved
connections-preserved g c =
    let D = g.D.Doors in
    let inv = c.connections.invariant in
    let lock = c.args.service.now.lock.now in
    let site = c.args.service.now.site.now in
    let clock = c.args.service.now.clock.now in
    let before = seen_by c.args.seat.now in
    let closed = D.closed c.args.doors.now in
    let first = D.opened c.args.doors.now in
    let were = c.connections.workers.items in
    let workers = c.settle_ended.new.workers.items in
    let same : length workers ≡ length were = c.settle_ended.ensures.length in
    let worker = c.start-worker.result in
    let from = c.in-Ok-Some.from in
    let to = c.in-Ok-Some.to in
    let n = D.opened c.connections.doors in
    let m = first + length workers in
    let ends : AreEnds g.S.Source g.K.Sink n from to = rw c.in-Ok-Some.field-0-is at c.in-Ok-Some.ensures.ends in
    let new : IsFresh g.S.Source g.K.Sink (D.closed c.connections.doors) n from to = rw c.in-Ok-Some.field-0-is at c.in-Ok-Some.ensures.fresh in
    let opened : D.opened c.next.new.self ≡ n + 1 = rw c.in-Ok-Some.field-0-is at c.in-Ok-Some.ensures.opened in
    let comes : Comes g.S.Source (D.coming c.connections.doors) (D.coming c.next.new.self) (Ok (Some (from, to))) = rw c.in-Ok-Some.field-0-is at c.in-Ok-Some.ensures.coming in
    let items : c.push.new.self.items ≡ workers ++ worker ∷ [] = c.in-Ok-push.ensures.items ∙ ap (λ w. w ++ worker ∷ []) c.reserve.ensures.items in
    let grown : length (workers ++ worker ∷ []) ≡ length workers + 1 = length-append workers (worker ∷ []) in
    let seen : seen_by c.in-Ok.mine ≡ before = c.in-Ok.ensures.seen.1 ∙ inv.seen in
    let P : List Event → Type 0 = λ w. IsAtWork g.S.Source g.K.Sink g.C.Clock lock site clock w from to worker in
    let Q : ℕ → Type 0 = λ k. AreEnds g.S.Source g.K.Sink k from to in
    let I : ℕ → Type 0 = λ k. IsFresh g.S.Source g.K.Sink closed k from to in
    let one : IsWorkerOf g.S.Source g.K.Sink g.C.Clock lock site clock before closed m worker = record {
      from = from;
      to = to;
      at_work = subst P seen c.start-worker.ensures;
      ends = subst Q (inv.opened ∙ ap (λ k. first + k) (sym same)) ends;
      is_fresh = subst I (inv.opened ∙ ap (λ k. first + k) (sym same)) (subst (λ w. IsFresh g.S.Source g.K.Sink w n from to) inv.closed new);
    } in
    let more = workers_more g.S.Source g.K.Sink g.C.Clock lock site clock before closed first m workers worker (c.settle_ended.ensures.settled lock site clock before closed first inv.workers) refl one in record {
      lock = c.in-Ok.ensures.lock.0;
      seen = c.in-Ok.ensures.seen.0 ∙ inv.seen;
      own = c.in-Ok.ensures.own.0 ∙ inv.own;
      place = c.next.ensures.place ∙ inv.place;
      closed = c.next.ensures.closed ∙ inv.closed;
      opened = opened ∙ (let was = inv.opened in let len = ap length items in omega arith);
      count = (let was = inv.count in let len = ap length items in omega arith);
      coming = (let R : ℕ → Type 0 = λ k. HaveCome (D.coming c.args.doors.now) (D.coming c.next.new.self) k in
          subst R (sym (ap length items ∙ grown ∙ ap (λ k. k + 1) same)) (one_came g.S.Source (D.coming c.args.doors.now) (D.coming c.connections.doors) (D.coming c.next.new.self) (length were) (from, to) inv.coming comes));
      sized = c.in-Ok-push.ensures.len ∙ ap (λ k. k + 1) (c.reserve.ensures.len ∙ c.settle_ended.ensures.count ∙ inv.sized ∙ sym same) ∙ sym grown ∙ sym (ap length items);
      faults = c.in-Ok-Some.ensures.quiet ∙ inv.faults;
      workers = subst (λ w. AreWorkersOf g.S.Source g.K.Sink g.C.Clock lock site clock before closed first w) (sym items) more;
    }

pub returns-in-Ok-None-clause-taken : goal.returns-in-Ok-None-clause-taken
returns-in-Ok-None-clause-taken g c =
    let D = g.D.Doors in
    let inv = c.connections.invariant in
    let were = length c.connections.workers.items in
    let count : vec_len c.reserve.new.self ≡ were = c.reserve.ensures.len ∙ c.settle_ended.ensures.count ∙ inv.sized in
    let opened : D.opened c.next.new.self ≡ D.opened c.connections.doors = rw c.in-Ok-None.field-0-is at c.in-Ok-None.ensures.opened in
    let comes : Comes {K = g.row.K.Denot} g.S.Source (D.coming c.connections.doors) (D.coming c.next.new.self) (Ok None) = rw c.in-Ok-None.field-0-is at c.in-Ok-None.ensures.coming in
    let come = no_more g.row.K.Denot g.S.Source (D.coming c.args.doors.now) (D.coming c.connections.doors) (D.coming c.next.new.self) were inv.coming comes in
    rw count (record {
      opened_is = opened ∙ inv.opened;
      within = (let is = inv.count in let end = c.connections-test.true in omega arith);
      coming_is = come.0;
      stop_is = (come.1, c.in-Ok-None.ensures.quiet ∙ inv.faults);
    })

pub returns-in-Err-next-clause-taken : goal.returns-in-Err-next-clause-taken
returns-in-Err-next-clause-taken g c =
    let D = g.D.Doors in
    let inv = c.connections.invariant in
    let were = length c.connections.workers.items in
    let count : vec_len c.reserve.new.self ≡ were = c.reserve.ensures.len ∙ c.settle_ended.ensures.count ∙ inv.sized in
    let rose = c.in-Err-next.ensures.failed in
    let was = inv.faults in
    rw count (record {
      opened_is = c.in-Err-next.ensures.opened ∙ inv.opened;
      within = (let is = inv.count in let end = c.connections-test.true in omega arith);
      coming_is = no_change g.row.K.Denot g.S.Source (D.coming c.args.doors.now) (D.coming c.connections.doors) (D.coming c.next.new.self) were c.in-Err-next.field-0 inv.coming c.in-Err-next.ensures.coming;
      stop_is = rw (← was) rose;
    })

pub returns-in-Err-next-clause-workers : goal.returns-in-Err-next-clause-workers
returns-in-Err-next-clause-workers g c =
    let D = g.D.Doors in
    let lock = c.args.service.now.lock.now in
    let site = c.args.service.now.site.now in
    let clock = c.args.service.now.clock.now in
    let before = seen_by c.args.seat.now in
    let closed = D.closed c.args.doors.now in
    let first = D.opened c.args.doors.now in
    subst (λ w. AreWorkersOf g.S.Source g.K.Sink g.C.Clock lock site clock before closed first w) (sym c.reserve.ensures.items)
    (c.settle_ended.ensures.settled lock site clock before closed first c.connections.invariant.workers)
