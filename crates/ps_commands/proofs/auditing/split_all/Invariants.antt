use Rattle.std.proofs.Common.{◌≡◌, ◌++◌}
use Rattle.ps_audit.specs.Judging.{texts}
use Rattle.ps_script.specs.Lines.{lines_of}
use Rattle.ps_commands.specs.Replays.{lines_left, bytes_left}
use Rattle.ps_commands.proofs.auditing.split_all.Given as goal

-- the lines so far, and then those that are left, are all
abbrev pub invariant-lines : goal.invariant-lines
invariant-lines l = texts l.lines.items ++ lines_left l.rest ≡ lines_of l.stream

abbrev pub decreases-lines : goal.decreases-lines
decreases-lines l = bytes_left l.rest
