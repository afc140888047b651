use Rattle.outside_tests.proofs.Echoing.{sent}
use Rattle.outside_tests.proofs.echoes.send.Goals as goal

pub returns-clause-sent : goal.returns-clause-sent
returns-clause-sent g c = sent c.write-sent.result _ _ _ _ _ c.write-sent.ensures.ok c.write-sent.ensures.err c.write-sent.ensures.failed
