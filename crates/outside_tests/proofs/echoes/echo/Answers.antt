use Rattle.std.proofs.Common.{◌≡◌, ◌∙◌}
use Rattle.outside_tests.proofs.Echoing.{told_same}
use Rattle.outside_tests.proofs.echoes.echo.Goals as goal

pub returns-clause-echo : goal.returns-clause-echo
returns-clause-echo g c = λ n is.
    let it = c.send_back.ensures.echo n is in
    (it.0, told_same _ _ _ _ _ _ _ _ _ _ c.end.ensures.number c.end.ensures.input c.end.ensures.faults c.end-2.ensures.taken c.end-2.ensures.faults ∙ it.1, it.2)
