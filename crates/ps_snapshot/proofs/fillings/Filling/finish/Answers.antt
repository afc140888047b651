use Rattle.std.proofs.Common.{sym, ◌∙◌}
use Rattle.ps_snapshot.specs.FirstCopies.{copy_of}
use Rattle.ps_snapshot.proofs.Looking.{some_of}
use Rattle.ps_snapshot.proofs.fillings.Filling.finish.Goals as goal

pub returns-clause-given : goal.returns-clause-given
returns-clause-given c = λ fixed lines h.
    let e = some_of (copy_of lines).end (sym (c.ended.ensures (copy_of lines) h.progress) ∙ c.if-not-ended.false) in
    (e.0, e.1, h.written, λ before stood. c.first_copies_are_whole.ensures before lines h.placed stood)
