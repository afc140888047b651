use Rattle.std.proofs.Common.{[], ◌∷◌, ◌++◌}
use Rattle.ps_snapshot.specs.FirstCopies.{copy_of}
use Rattle.ps_snapshot.proofs.fillings.Filling.accept.Goals as goal

pub returns-in-Ok : goal.returns-in-Ok
returns-in-Ok c = λ fixed lines h can.
    let taken = c.in-Ok.ensures fixed lines h can in
    (taken, c.filled.ensures (copy_of (lines ++ c.args.line ∷ [])) taken.progress)
