use Rattle.ps_files.specs.ReadingAll.{HasRead}
use Rattle.ps_files.specs.ReadingChanges.{bytes_left}
use Rattle.ps_files.proofs.reading_all.read_transactions.Given as goal

-- the lines before those that are left are read
abbrev pub invariant-lines : goal.invariant-lines
invariant-lines l = HasRead l.changes l.number l.rest l.transactions.items

abbrev pub decreases-lines : goal.decreases-lines
decreases-lines l = bytes_left l.rest
