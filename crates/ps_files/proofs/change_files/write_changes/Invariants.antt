use Rattle.ps_files.specs.ReadingChanges.{HasWritten, bytes_left}
use Rattle.ps_files.proofs.change_files.write_changes.Given as goal

-- the lines before those that are left are written
abbrev pub invariant-lines : goal.invariant-lines
invariant-lines l = HasWritten l.fn.rules l.changes l.number l.rest l.store

abbrev pub decreases-lines : goal.decreases-lines
decreases-lines l = bytes_left l.rest
