use Rattle.ps_syncing.specs.Inputs.{HasRead, bytes_left}
use Rattle.ps_syncing.proofs.inputs.read_uploads.Given as goal

-- the lines before those that are left are read
abbrev pub invariant-lines : goal.invariant-lines
invariant-lines l = HasRead l.bytes l.number l.rest l.changes.items

abbrev pub decreases-lines : goal.decreases-lines
decreases-lines l = bytes_left l.rest
