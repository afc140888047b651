use Rattle.std.proofs.Common.{◌≤◌, length, take, min}
use Rattle.ps_journal.specs.Moments.{furthest}
use Rattle.ps_journal.proofs.crashes.longest_left.Given as goal

abbrev pub invariant-spans : goal.invariant-spans
invariant-spans l = record {
  most : l.longest ≤ furthest (length l.moment.sure) (take l.span-index l.moment.spans);
  least : min (furthest (length l.moment.sure) (take l.span-index l.moment.spans)) 18446744073709551615 ≤ l.longest;
}
