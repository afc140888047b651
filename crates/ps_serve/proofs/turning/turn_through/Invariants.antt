use Rattle.std.proofs.Common.{Some}
use Rattle.ps_serve.specs.Readers.{own}
use Rattle.ps_serve.proofs.turning.turn_through.Given as goal

-- the lock and the seat's own entries
abbrev pub ghosts-turn_named : goal.ghosts-turn_named
ghosts-turn_named g a = record { lock = Some a.desk.now.lock.now; entries = own a.reader }
