use Rattle.std.proofs.Common.{◌≡◌, ℕ, ◌-◌, List, length, vec_len, Option, arith}
use Rattle.ps_doors.specs.Connections.{Connection}
use Rattle.ps_lock.specs.Words.{seen_by, own_entries_of}
use Rattle.ps_store.specs.declared.events.Event.{Event}
use Rattle.ps_workers.specs.Sharing.{fixed_of}
use Rattle.ps_connections.specs.Answers.{HaveServed, IsAnswered, StaysAnswered}
use Rattle.ps_connections.proofs.Closed.{have_along, restated}
use Rattle.ps_connections.proofs.serving.serve_connections.Goals as goal

pub returns-clause-served : goal.returns-clause-served
returns-clause-served g c = λ history p valid.
    let D = g.D.Doors in
    let fixed = fixed_of c.args.service.now.lock.now in
    let site = c.args.service.now.site.now in
    let may_give = g.C.Clock.may_give c.args.service.now.clock.now in
    let low = length (seen_by c.args.seat) in
    let took = c.take_all-seat.ensures in
    let between = c.take_all-seat.result.1 in
    let count = vec_len c.take_all-seat.result.2.0 in
    let seat = c.close_all-out_of_memory.new.seat in
    let closed = D.closed c.close_all-out_of_memory.new.doors in
    let short = c.close_all-out_of_memory.result in
    let first : D.opened between - count ≡ D.opened c.args.doors = let more = took.taken.opened_is in omega arith in
    let P : List Event → List (Event × ℕ) → ℕ → Option (List Connection) → Type 0 = λ seen own n before.
    HaveServed (StaysAnswered fixed site may_give (length seen) (seen_by seat)) n before closed count short own (own_entries_of seat) in
    let served : P (seen_by c.args.seat) (own_entries_of c.args.seat) (D.opened c.args.doors) (D.closed c.args.doors) =
    restated P (seen_by c.take_all-seat.result.0) (seen_by c.args.seat) (own_entries_of c.take_all-seat.result.0) (own_entries_of c.args.seat) (D.opened between - count) (D.opened c.args.doors)
    (D.closed between) (D.closed c.args.doors) took.seen took.own first took.closed c.close_all-out_of_memory.ensures.served in
    let all : HaveServed (IsAnswered fixed site may_give low history) (D.opened c.args.doors) (D.closed c.args.doors) closed count short (own_entries_of c.args.seat) (own_entries_of seat) =
    have_along (StaysAnswered fixed site may_give low (seen_by seat)) (IsAnswered fixed site may_give low history) (λ one came stays. stays history p valid)
    (D.opened c.args.doors) count (D.closed c.args.doors) closed short (own_entries_of c.args.seat) (own_entries_of seat) served in
    rw c.len-connections.ensures all
