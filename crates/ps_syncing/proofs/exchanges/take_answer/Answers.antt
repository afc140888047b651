use Rattle.ps_syncing.proofs.Beginning.{Answers-begun}
use Rattle.ps_syncing.proofs.exchanges.take_answer.Goals as goal

pub returns-in-Ok-clause-answers : goal.returns-in-Ok-clause-answers
returns-in-Ok-clause-answers g c = c.take_body.ensures.answers (g.S.Source.input c.args.from.now) c.args.request.now c.in-Ok.ensures.begins

pub returns-in-Err-clause-answers : goal.returns-in-Err-clause-answers
returns-in-Err-clause-answers g c =
    Answers-begun (g.S.Source.input c.args.from.now) (g.S.Source.input c.begin.new.from) c.args.request.now c.in-Err.fault c.in-Err.ensures.begins
