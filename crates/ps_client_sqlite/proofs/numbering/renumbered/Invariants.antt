use Rattle.std.proofs.Common.{◌≡◌, pos, ◌≤ℤ◌, All, length}
use Rattle.ps_client_lines.specs.Holding.{AreRising}
use Rattle.ps_client_sqlite.specs.Numbering.{changes_of, texts_of, numbers_of, first_numbers}
use Rattle.ps_client_sqlite.proofs.numbering.renumbered.Given as goal

abbrev pub invariant-lines : goal.invariant-lines
invariant-lines l = record {
  changes : changes_of l.all.items ≡ changes_of l.yielded;
  texts : texts_of l.all.items ≡ texts_of l.yielded;
  rising : AreRising l.all.items;
  low : All (λ line. line.seq ≤ℤ l.last) l.all.items;
  numbers : numbers_of l.all.items ≡ first_numbers (length l.all.items);
  last : l.last ≡ pos (length l.all.items);
}
