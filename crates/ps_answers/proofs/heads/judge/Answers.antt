-- The head that the parser found is the one that is read.
use Rattle.std.proofs.Common.{sym, arith}
use Rattle.ps_answers.proofs.Judging.{judged}
use Rattle.ps_answers.proofs.heads.judge.Goals as goal

pub returns-in-Some : goal.returns-in-Some
returns-in-Some c =
    let at = rw c.in-Ok-Complete.field-0-is at c.in-Ok-Complete.ensures.complete in
    let within = rw c.in-Ok-Complete.field-0-is at c.in-Ok-Complete.ensures.within in
    judged c.args.bytes.now c.parse_response.new.headers c.in-Ok-Complete.spans at within c.in-Some.length
    (omega (arith, c.parse_response.auto.headers)) c.requires (sym c.in-Some.ensures)
