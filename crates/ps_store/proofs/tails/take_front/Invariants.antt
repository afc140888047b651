use Rattle.std.proofs.Common.{◌≡◌, ℕ, ◌≤◌, List, ◌++◌, length, take, drop}
use Rattle.ps_rows.specs.Source.{Key}
use Rattle.ps_store.specs.Originals.{Timed}
use Rattle.ps_store.specs.Rows.{row_at}
use Rattle.ps_store.specs.Tails.{HasPlaces, AreRowsOf, NotFalling, Ascend, rows_after, notes_after}
use Rattle.ps_store.proofs.tails.take_front.Given as goal

-- what is left leads to the same end
abbrev pub invariant-steps : goal.invariant-steps
invariant-steps l = record {
  count : length l.one-iterator.rest.items ≤ length l.queue.items;
  places : HasPlaces l.rows (take (length l.one-iterator.rest.items) l.queue.items);
  rows_are : AreRowsOf l.index.rules.definitions l.one-iterator.rest.items l.queue.items;
  room : length l.one-iterator.rest.items ≤ l.index.spare;
  rise : NotFalling l.index.last l.queue.items;
  changes : drop (length l.one-iterator.rest.items) l.queue.items ≡ drop (length l.fn.made.items) l.fn.queue.items;
  rows : (key : Key) → rows_after (row_at l.rows) (take (length l.one-iterator.rest.items) l.queue.items) key ≡ rows_after (row_at l.fn.rows) (take (length l.fn.made.items) l.fn.queue.items) key;
  index_rules : l.index.rules ≡ l.fn.index.rules;
  index_forgotten : l.index.forgotten ≡ l.fn.index.forgotten;
  index_notes : notes_after l.fn.index.rules.definitions l.index.notes (take (length l.one-iterator.rest.items) l.queue.items)
      ≡ notes_after l.fn.index.rules.definitions l.fn.index.notes (take (length l.fn.made.items) l.fn.queue.items);
  index_ascend : (rest : List Timed) (head : ℕ) → Ascend l.fn.index.last (l.fn.queue.items ++ rest) head → Ascend l.index.last (l.queue.items ++ rest) head;
}
