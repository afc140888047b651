use Rattle.std.proofs.Common.{◌≡◌, take}
use Rattle.std.specs.List.{All}
use Rattle.ps_client_lines.specs.Holding.{AreRising, IsTextOf}
use Rattle.ps_client_sqlite.specs.Numbering.{changes_of, numbers_of}
use Rattle.ps_client_sqlite.specs.Editing.{waiting_after_all, numbers_after_all}
use Rattle.ps_client_sqlite.proofs.editing.after_edits.Given as goal

abbrev pub invariant-edits : goal.invariant-edits
invariant-edits l = record {
  rising : AreRising l.lines;
  texts : All IsTextOf l.lines;
  changes : changes_of l.lines ≡ waiting_after_all (changes_of l.fn.queue) (take l.edit-index l.edits);
  numbers : numbers_of l.lines ≡ numbers_after_all (numbers_of l.fn.queue) (take l.edit-index l.edits);
}
