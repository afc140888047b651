use Rattle.std.proofs.Common.{◌≡◌, ◌+◌, drop}
use Rattle.ps_session.specs.Matches.{below_front}
use Rattle.ps_session.proofs.matches.first_not_below.Given as goal

abbrev pub invariant-others : goal.invariant-others
invariant-others l = l.from + below_front l.name (drop l.from l.others) ≡ l.at + below_front l.name (drop l.at l.others)
