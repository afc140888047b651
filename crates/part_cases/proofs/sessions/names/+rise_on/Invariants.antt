use Rattle.std.proofs.Common.{length}
use Rattle.part_cases.proofs.sessions.names.+rise_on.Given as goal

abbrev pub decreases-rise_on : goal.decreases-rise_on
decreases-rise_on l = length l.buckets.now
