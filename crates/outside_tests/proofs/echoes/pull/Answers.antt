use Rattle.outside_tests.proofs.Echoing.{handed, handed_none}
use Rattle.outside_tests.proofs.echoes.pull.Goals as goal

pub returns-in-Ok-clause-handed : goal.returns-in-Ok-clause-handed
returns-in-Ok-clause-handed g c = handed _ _ _ _ c.in-Ok.ensures.next c.in-Ok.ensures.end

pub returns-in-Err-clause-handed : goal.returns-in-Err-clause-handed
returns-in-Err-clause-handed g c = handed_none _ _ c.in-Err.ensures.err
