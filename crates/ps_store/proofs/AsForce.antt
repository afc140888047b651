-- The generation that is being built takes changes as if it were in force.
use Rattle.std.proofs.Common.{◌≡◌, ℕ, zero, suc, ◌+◌, Option, Some, List, [], ◌∷◌, ◌++◌, refl, sym, ap, ◌∙◌, subst, length, drop, fold}
use Rattle.ps_store.specs.Deploys.{as_force}
use Rattle.ps_store.specs.Generations.{Lane, lane_next, step_lane, Coming}
use Rattle.ps_store.specs.Ledgers.{Ledger, write_next, build_next, build_with, taken_by}
use Rattle.ps_store.specs.Originals.{Timed, in_bucket}

-- in a ledger a lane is in force that in another one is being built
pub record IsAs (coming : Coming) (l k : Ledger) : Type 0 where
  pub force : k.force ≡ coming.lane
  pub last : k.last ≡ l.last
  pub entered : k.entered ≡ l.entered
  pub log : k.log ≡ l.log

pub as_it_is : (coming : Coming) (l : Ledger) → IsAs coming l (as_force coming l)
as_it_is coming l = record { force = refl; last = refl; entered = refl; log = refl }

-- nothing but ids, operations, logs and what is built changes
pub record Stays (l m : Ledger) : Type 0 where
  pub fed : m.fed ≡ l.fed
  pub closed : m.closed ≡ l.closed
  pub written : m.written ≡ l.written
  pub wrote : m.wrote ≡ l.wrote
  pub given : m.given ≡ l.given
  pub reach : m.reach ≡ l.reach
  pub position : m.position ≡ l.position
  pub op : m.op ≡ l.op
  pub force : m.force ≡ l.force
  pub begun : m.begun ≡ l.begun
  pub ended : m.ended ≡ l.ended
  pub level : m.level ≡ l.level
  pub numbers : m.numbers ≡ l.numbers

-- so a ledger is the one before, with these
pub with_taken : (l m : Ledger) → Stays l m → (record l { last = m.last; building = m.building; entered = m.entered; log = m.log }) ≡ m
with_taken l m s = λ i. record {
  fed = sym s.fed i;
  closed = sym s.closed i;
  written = sym s.written i;
  last = m.last;
  wrote = sym s.wrote i;
  given = sym s.given i;
  reach = sym s.reach i;
  position = sym s.position i;
  op = sym s.op i;
  force = sym s.force i;
  building = m.building;
  begun = sym s.begun i;
  ended = sym s.ended i;
  entered = m.entered;
  log = m.log;
  level = sym s.level i;
  numbers = sym s.numbers i;
}

pub record HasTaken (coming : Coming) (l : Ledger) (ts : List Timed) (m k : Ledger) : Type 0 where
  pub building : m.building ≡ Some (record { lane = k.force; queue = drop (length ts) coming.queue })
  pub last : m.last ≡ k.last
  pub entered : m.entered ≡ k.entered
  pub log : m.log ≡ k.log
  pub stays : Stays l m

drop_again : (n : ℕ) (ts : List Timed) → drop n (drop 1 ts) ≡ drop (suc n) ts
drop_again zero [] = refl
drop_again (suc n) [] = refl
drop_again zero (t ∷ ts) = refl
drop_again (suc n) (t ∷ ts) = refl

module _ (coming : Coming) (l k : Ledger) (t : Timed) (h : IsAs coming l k) where
  abbrev next : Coming
  next = record { lane = step_lane coming.lane l.last t; queue = drop 1 coming.queue }

  as_next : IsAs next (taken_by coming t l) (write_next k t)
  as_next = record {
    force = λ i. step_lane (h.force i) (h.last i) t;
    last = λ i. h.last i + length (lane_next (h.force i) (h.last i) t);
    entered = λ i. h.entered i ++ lane_next (h.force i) (h.last i) t;
    log = λ i bucket. h.log i bucket ++ in_bucket bucket (lane_next (h.force i) (h.last i) t);
  }

pub takes_all : (ts : List Timed) (coming : Coming) (l k : Ledger) → l.building ≡ Some coming → IsAs coming l k → HasTaken coming l ts (fold build_next l ts) (fold write_next k ts)
takes_all [] coming l k is h = record {
  building = is ∙ ap (λ (lane : Lane). Some (record { lane = lane; queue = coming.queue })) (sym h.force);
  last = sym h.last;
  entered = sym h.entered;
  log = sym h.log;
  stays = record { fed = refl; closed = refl; written = refl; wrote = refl; given = refl; reach = refl; position = refl; op = refl; force = refl; begun = refl; ended = refl; level = refl; numbers = refl };
}
takes_all (t ∷ ts) coming l k is h =
    let r = takes_all ts (next coming l k t h) (taken_by coming t l) (write_next k t) refl (as_next coming l k t h) in
    let s = r.stays in
    subst (λ (n : Ledger). HasTaken coming l (t ∷ ts) (fold build_next n ts) (fold write_next (write_next k t) ts)) (sym (ap (λ (o : Option Coming). build_with o t l) is)) (record {
      building = r.building ∙ ap (λ (queue : List Timed). Some (record { lane = (fold write_next (write_next k t) ts).force; queue = queue })) (drop_again (length ts) coming.queue);
      last = r.last;
      entered = r.entered;
      log = r.log;
      stays = record {
        fed = s.fed;
        closed = s.closed;
        written = s.written;
        wrote = s.wrote;
        given = s.given;
        reach = s.reach;
        position = s.position;
        op = s.op;
        force = s.force;
        begun = s.begun;
        ended = s.ended;
        level = s.level;
        numbers = s.numbers;
      };
    })
