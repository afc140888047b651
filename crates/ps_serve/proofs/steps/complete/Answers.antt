use Rattle.std.proofs.Common.{◌-◌, arith, refl, vec_len}
use Rattle.ps_serve.proofs.Stepping.{last_done}
use Rattle.ps_serve.proofs.steps.complete.Goals as goal

pub returns-in-Some : goal.returns-in-Some
returns-in-Some c =
    let some = c.in-Some.ensures.variant in
    let there = some.0 refl in
    last_done c.args.served.now.items (vec_len c.args.served.now - 1) c.in-Some.last.now (omega (arith, there)) c.in-Some.ensures.value
