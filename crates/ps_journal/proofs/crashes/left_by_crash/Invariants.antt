use Rattle.std.proofs.Common.{◌≡◌, ◌<◌, ◌≤◌, ℕ, length, take}
use Rattle.std.specs.Prelude.{slice_index}
use Rattle.ps_journal.specs.Moments.{IsApart, furthest, MayLeave}
use Rattle.ps_journal.proofs.crashes.left_by_crash.Given as goal

abbrev pub invariant-places : goal.invariant-places
invariant-places l = record {
  long : length l.left.items ≡ l.place;
  no_shorter : length l.moment.sure ≤ length l.bytes;
  no_longer : length l.bytes ≤ furthest (length l.moment.sure) l.moment.spans;
  itself : MayLeave l.moment l.bytes → l.left.items ≡ take l.place l.bytes;
  elsewhere : (p : ℕ) → p < l.place → p < length l.moment.sure → IsApart p l.moment.spans → slice_index l.left.items p ≡ slice_index l.moment.sure p;
}
