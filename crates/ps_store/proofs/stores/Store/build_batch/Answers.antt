use Rattle.std.proofs.Common.{◌≡◌, ℕ, ◌+◌, ◌≤◌, refl, arith}
use Rattle.ps_store.specs.declared.totals.Totals.{Totals}
use Rattle.ps_store.specs.Deploys.{with_batch, HasGrown}
use Rattle.ps_store.specs.Ledgers.{ledger_of}
use Rattle.ps_store.proofs.QueueTaken.{b, built_within, built_now, build_fails, build_done, count_low, ops_low, room}
use Rattle.ps_store.proofs.stores.Store.build_batch.Goals as goal

pub take_batch-requires-clause-limits : goal.take_batch-requires-clause-limits
take_batch-requires-clause-limits c = built_within c.requires.stands.0 c.args.self.now c.requires.stands.1 c.requires.stands.2 c.in-Some.building c.in-Some.is c.args.limit

pub take_batch-requires-clause-stands : goal.take_batch-requires-clause-stands
take_batch-requires-clause-stands c = ((b c.requires.stands.0 c.args.self.now c.requires.stands.1 c.requires.stands.2 c.in-Some.building c.in-Some.is c.args.limit).lane, ledger_of c.requires.stands.0.rules c.requires.stands.1, built_now c.requires.stands.0 c.args.self.now c.requires.stands.1 c.requires.stands.2 c.in-Some.building c.in-Some.is c.args.limit)

pub returns-in_err-batched : goal.returns-in_err-batched
returns-in_err-batched c = λ fixed history h.
    build_fails fixed c.args.self.now history h c.in-Some.building c.in-Some.is c.args.limit c.in_err-batched.field-0.0 c.take_batch.new.self c.take_batch.ensures.by
    (c.in_err-batched.ensures.grows (b fixed c.args.self.now history h c.in-Some.building c.in-Some.is c.args.limit).lane (ledger_of fixed.rules history) (built_now fixed c.args.self.now history h c.in-Some.building c.in-Some.is c.args.limit)) c.from_residual.result c.from_residual.ensures.1

pub write-requires-clause-room : goal.write-requires-clause-room
write-requires-clause-room c = room c.requires.stands.0 c.args.self.now c.requires.stands.1 c.requires.stands.2 c.in-Some.building c.in-Some.is c.args.limit c.in_ok-batched.batched c.take_batch.new.self c.take_batch.ensures.by (c.in_ok-batched.ensures.grows (b c.requires.stands.0 c.args.self.now c.requires.stands.1 c.requires.stands.2 c.in-Some.building c.in-Some.is c.args.limit).lane (ledger_of c.requires.stands.0.rules c.requires.stands.1) (built_now c.requires.stands.0 c.args.self.now c.requires.stands.1 c.requires.stands.2 c.in-Some.building c.in-Some.is c.args.limit))

pub write-requires-clause-first : goal.write-requires-clause-first
write-requires-clause-first c = let g : HasGrown (b c.requires.stands.0 c.args.self.now c.requires.stands.1 c.requires.stands.2 c.in-Some.building c.in-Some.is c.args.limit).lane (ledger_of c.requires.stands.0.rules c.requires.stands.1) c.args.limit c.in_ok-batched.batched c.take_batch.new.self = (c.in_ok-batched.ensures.grows (b c.requires.stands.0 c.args.self.now c.requires.stands.1 c.requires.stands.2 c.in-Some.building c.in-Some.is c.args.limit).lane (ledger_of c.requires.stands.0.rules c.requires.stands.1) (built_now c.requires.stands.0 c.args.self.now c.requires.stands.1 c.requires.stands.2 c.in-Some.building c.in-Some.is c.args.limit)) in omega (arith, g.first)

pub overflow_cast-result : goal.overflow_cast-result
overflow_cast-result c =
    let low : c.in_ok-batched.batched.changes ≤ c.args.limit = count_low c.requires.stands.0 c.args.self.now c.requires.stands.1 c.requires.stands.2 c.in-Some.building c.in-Some.is c.args.limit c.in_ok-batched.batched c.take_batch.new.self c.take_batch.ensures.by (c.in_ok-batched.ensures.grows (b c.requires.stands.0 c.args.self.now c.requires.stands.1 c.requires.stands.2 c.in-Some.building c.in-Some.is c.args.limit).lane (ledger_of c.requires.stands.0.rules c.requires.stands.1) (built_now c.requires.stands.0 c.args.self.now c.requires.stands.1 c.requires.stands.2 c.in-Some.building c.in-Some.is c.args.limit)) in
    omega (arith, low, c.requires.limit)

pub overflow_cast-result-2 : goal.overflow_cast-result-2
overflow_cast-result-2 c =
    let low : c.in_ok-batched.batched.operations ≤ 2000000000 = ops_low c.requires.stands.0 c.args.self.now c.requires.stands.1 c.requires.stands.2 c.in-Some.building c.in-Some.is c.args.limit c.in_ok-batched.batched c.take_batch.new.self c.take_batch.ensures.by (c.in_ok-batched.ensures.grows (b c.requires.stands.0 c.args.self.now c.requires.stands.1 c.requires.stands.2 c.in-Some.building c.in-Some.is c.args.limit).lane (ledger_of c.requires.stands.0.rules c.requires.stands.1) (built_now c.requires.stands.0 c.args.self.now c.requires.stands.1 c.requires.stands.2 c.in-Some.building c.in-Some.is c.args.limit)) c.requires.limit in
    omega (arith, low)

pub returns : goal.returns
returns c = λ fixed history h.
    let old : Totals = c.args.self.now.totals in
    let w = c.write.ensures in
    let counted : c.write.new.self ≡ with_batch old c.in_ok-batched.batched =
    λ i. record { transactions = w.transactions i; changes = unchanged old.changes c.write.new.self.changes w.changes i; operations = w.operations i; buckets = w.buckets i; sum = w.sum i } in
    build_done fixed c.args.self.now history h c.in-Some.building c.in-Some.is c.args.limit c.in_ok-batched.batched c.take_batch.new.self c.take_batch.ensures.by (c.in_ok-batched.ensures.grows (b fixed c.args.self.now history h c.in-Some.building c.in-Some.is c.args.limit).lane (ledger_of fixed.rules history) (built_now fixed c.args.self.now history h c.in-Some.building c.in-Some.is c.args.limit))
    c.write.new.self counted (record { changes = c.in_ok-batched.batched.changes; ops = c.in_ok-batched.batched.operations; last_op = c.in_ok-batched.batched.last; left = c.len-left.result }) refl refl refl (omega (arith, c.len-left.ensures))
  where
    unchanged : (x y : ℕ) → y ≡ x + 0 → y ≡ x
    unchanged x y e = omega (arith, e)
