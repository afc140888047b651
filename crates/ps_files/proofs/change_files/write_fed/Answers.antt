use Rattle.std.proofs.Common.{arith}
use Rattle.std.proofs.lemmas.Result.{err_from_is_err_and}
use Rattle.ps_files.proofs.Reaching.{pending_refused}
use Rattle.ps_files.proofs.change_files.write_fed.Goals as goal

pub returns-in_err-written : goal.returns-in_err-written
returns-in_err-written c =
    let p = err_from_is_err_and c.from_residual.result c.from_residual.ensures.1 in
    rw (p.1, p.2) (λ rules ts passed h.
    (pending_refused rules ts c.batches.left passed c.write_some.new.store c.in_err-written.field-0.0 (c.in_err-written.ensures rules ts c.batches.left passed (c.batches.invariant rules ts passed h) (omega (arith, c.batches-test.true)))))

pub write_some-requires : goal.write_some-requires
write_some-requires c = let k = c.requires in (k.0, k.1, c.batches.left, k.2, c.batches.invariant k.0 k.1 k.2 k.3, c.batches-test.true)

pub overflow_sub-left : goal.overflow_sub-left
overflow_sub-left c =
    let k = c.requires in
    (c.in_ok-written.ensures k.0 k.1 c.batches.left k.2 (c.batches.invariant k.0 k.1 k.2 k.3) (omega (arith, c.batches-test.true))).1

pub batches-smaller : goal.batches-smaller
batches-smaller c =
    let k = c.requires in
    let some = c.in_ok-written.ensures k.0 k.1 c.batches.left k.2 (c.batches.invariant k.0 k.1 k.2 k.3) (omega (arith, c.batches-test.true)) in
    omega (arith, some.0, some.1)
