use Rattle.std.proofs.Common.{◌++◌}
use Rattle.service_cases.proofs.serving.asking.connect.Goals as goal

pub returns : goal.returns
returns c =
    let r = c.requires in
    let s = c.answer_alone.ensures.serves r.0 r.1 r.2 in
    (r.0, r.1 ++ s.0, s.2)
