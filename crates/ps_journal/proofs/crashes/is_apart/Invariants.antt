use Rattle.std.proofs.Common.{take}
use Rattle.ps_journal.specs.Moments.{IsApart}
use Rattle.ps_journal.proofs.crashes.is_apart.Given as goal

abbrev pub invariant-spans : goal.invariant-spans
invariant-spans l = IsApart l.place (take l.span-index l.spans)
