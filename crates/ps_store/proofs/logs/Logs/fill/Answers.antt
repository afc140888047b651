use Rattle.std.proofs.Common.{◌≡◌, ◌≤◌, ◌<◌, List, ◌∷◌, ◌++◌, sym, ap, ◌∙◌, subst, length, arith}
use Rattle.ps_bucket_log.specs.Ops.{id_of, newest}
use Rattle.ps_store.specs.Originals.{Entered, in_bucket}
use Rattle.ps_store.specs.StoreLogs.{log_at, room_at, with_op, first_ops, Continue}
use Rattle.ps_store.proofs.Counting.{first_low, first_more, rising_with}
use Rattle.ps_store.proofs.Filling.{with_rest, count_rest, count_own, continue_along}
use Rattle.ps_store.proofs.logs.Logs.fill.Goals as goal

pub entered-preserved : goal.entered-preserved
entered-preserved c =
    let e : Entered = c.in-Some.e in
    let rest : List Entered = c.next.new.self.rest.items in
    let s = c.in-Some.ensures.steps in
    let newer : newest (log_at c.entered.self e.bucket) < id_of e.op = (subst (Continue (log_at c.entered.self)) s.0 c.entered.invariant.newer).0 in
    record {
      logs = λ bucket.
          ap (λ ops. ops ++ in_bucket bucket rest) (c.append.ensures.logs bucket)
          ∙ with_rest (log_at c.entered.self) bucket e rest
          ∙ ap (λ es. log_at c.entered.self bucket ++ in_bucket bucket es) (sym s.0)
          ∙ c.entered.invariant.logs bucket;
      room = λ bucket.
          let h : length (in_bucket bucket (e ∷ rest)) ≤ room_at c.entered.self bucket = subst (λ es. length (in_bucket bucket es) ≤ room_at c.entered.self bucket) s.0 (c.entered.invariant.room bucket) in
          omega (arith, h, count_rest bucket e rest, c.append.ensures.rooms bucket);
      first =
          let one = first_more (log_at c.entered.self) (log_at c.append.new.self) e rest c.append.result (λ b. c.append.ensures.logs b) c.append.ensures.first (c.entered.invariant.rising e.bucket) newer in
          let all : first_ops (log_at c.entered.self) (e ∷ rest) ≡ first_ops (log_at c.entered.self) c.entered.e-iterator.rest.items = ap (first_ops (log_at c.entered.self)) (sym s.0) in
          omega (arith, one, all, c.entered.invariant.first);
      rising = rising_with (log_at c.entered.self) (log_at c.append.new.self) e (λ b. c.append.ensures.logs b) newer c.entered.invariant.rising;
      newer = continue_along rest (with_op (log_at c.entered.self) e) (log_at c.append.new.self) (λ b. c.append.ensures.logs b) (subst (Continue (log_at c.entered.self)) s.0 c.entered.invariant.newer).2;
    }

pub append-requires-clause-room : goal.append-requires-clause-room
append-requires-clause-room c =
    let e : Entered = c.in-Some.e in
    let rest : List Entered = c.next.new.self.rest.items in
    let s = c.in-Some.ensures.steps in
    let h : length (in_bucket e.bucket (e ∷ rest)) ≤ room_at c.entered.self e.bucket = subst (λ es. length (in_bucket e.bucket es) ≤ room_at c.entered.self e.bucket) s.0 (c.entered.invariant.room e.bucket) in
    omega (arith, h, count_own e rest)

pub append-requires-clause-newer : goal.append-requires-clause-newer
append-requires-clause-newer c = (subst (Continue (log_at c.entered.self)) c.in-Some.ensures.steps.0 c.entered.invariant.newer).0

pub append-requires-clause-no_clear : goal.append-requires-clause-no_clear
append-requires-clause-no_clear c = (subst (Continue (log_at c.entered.self)) c.in-Some.ensures.steps.0 c.entered.invariant.newer).1

pub overflow_add-first : goal.overflow_add-first
overflow_add-first c =
    let e : Entered = c.in-Some.e in
    let rest : List Entered = c.next.new.self.rest.items in
    let s = c.in-Some.ensures.steps in
    let newer : newest (log_at c.entered.self e.bucket) < id_of e.op = (subst (Continue (log_at c.entered.self)) s.0 c.entered.invariant.newer).0 in
    let one = first_more (log_at c.entered.self) (log_at c.append.new.self) e rest c.append.result (λ b. c.append.ensures.logs b) c.append.ensures.first (c.entered.invariant.rising e.bucket) newer in
    let all : first_ops (log_at c.entered.self) (e ∷ rest) ≡ first_ops (log_at c.entered.self) c.entered.e-iterator.rest.items = ap (first_ops (log_at c.entered.self)) (sym s.0) in
    omega (arith, one, all, c.entered.invariant.first, first_low c.args.entered.items (log_at c.args.self.now), c.len-count.ensures, c.from-first.ensures)
