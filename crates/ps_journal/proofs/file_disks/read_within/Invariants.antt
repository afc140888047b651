use Rattle.std.proofs.Common.{◌≤◌, length}
use Rattle.ps_journal.proofs.file_disks.read_within.Given as goal

abbrev pub invariant-chunks : goal.invariant-chunks
invariant-chunks l = length l.bytes.items ≤ l.limit
