use Rattle.std.proofs.lemmas.Result.{err_from_is_err_and}
use Rattle.ps_lines.specs.Reading.{line_of}
use Rattle.ps_client.specs.States.{state}
use Rattle.ps_client.proofs.Reading.{read_fault, read_rose}
use Rattle.ps_client.proofs.clients.Client.take.Goals as goal

pub returns-in_err-line-clause-taken : goal.returns-in_err-line-clause-taken
returns-in_err-line-clause-taken g c =
    let p = err_from_is_err_and c.from_residual.result c.from_residual.ensures.1 in
    rw (p.1, p.2) (read_fault (state c.args.self.now) c.args.line.now c.in_err-line.field-0.0 c.in_err-line.ensures.fault)

pub returns-in_err-line-clause-failed : goal.returns-in_err-line-clause-failed
returns-in_err-line-clause-failed g c =
    let p = err_from_is_err_and c.from_residual.result c.from_residual.ensures.1 in
    rw (p.1, p.2) (read_rose (line_of c.args.line.now) c.in_err-line.field-0.0 _ _ c.in_err-line.ensures.fault)
