use Rattle.std.proofs.Common.{arith}
use Rattle.std.proofs.lemmas.Result.{err_from_is_err_and}
use Rattle.ps_snapshot.proofs.writing.write_fed.Goals as goal

pub returns-in_err-written : goal.returns-in_err-written
returns-in_err-written c =
    let p = err_from_is_err_and c.from_residual.result c.from_residual.ensures.1 in
    rw (p.1, p.2) (λ fixed fed h. c.in_err-written.ensures fixed fed c.batches.left (c.batches.invariant fixed fed h) (omega (arith, c.batches-test.true)))

pub write_some-requires : goal.write_some-requires
write_some-requires c = let k = c.requires in (k.0, k.1, c.batches.left, c.batches.invariant k.0 k.1 k.2, c.batches-test.true)

pub overflow_sub-left : goal.overflow_sub-left
overflow_sub-left c =
    let k = c.requires in
    (c.in_ok-written.ensures k.0 k.1 c.batches.left (c.batches.invariant k.0 k.1 k.2) (omega (arith, c.batches-test.true))).1

pub batches-smaller : goal.batches-smaller
batches-smaller c =
    let k = c.requires in
    let some = c.in_ok-written.ensures k.0 k.1 c.batches.left (c.batches.invariant k.0 k.1 k.2) (omega (arith, c.batches-test.true)) in
    omega (arith, some.0, some.1)
