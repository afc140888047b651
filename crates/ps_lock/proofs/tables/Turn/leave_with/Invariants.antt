use Rattle.std.proofs.Common.{[], ◌∷◌}
use Rattle.ps_lock.proofs.tables.Turn.leave_with.Given as goal

abbrev pub ghosts-grow : goal.ghosts-grow
ghosts-grow g a = record { entries = a.entry.now ∷ [] }
