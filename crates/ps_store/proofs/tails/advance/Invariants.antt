use Rattle.std.proofs.Common.{◌≡◌, ℕ, ◌≤◌, length, take, drop}
use Rattle.ps_rows.specs.Source.{Key}
use Rattle.ps_store.specs.Rows.{row_at}
use Rattle.ps_store.specs.Reach.{reached}
use Rattle.ps_store.specs.Tails.{Tied, HasPlaces, AreRowsOf, NotFalling, Ascend, ids, reach_after, rows_after, notes_after}
use Rattle.ps_store.proofs.tails.advance.Given as goal

-- what is left leads to the same end
abbrev pub invariant-steps : goal.invariant-steps
invariant-steps l = record {
  tied : Tied l.tail.changes.items (reached l.tail.reach);
  count : length l.one-iterator.rest.items ≤ length l.tail.changes.items;
  places : HasPlaces l.rows (take (length l.one-iterator.rest.items) l.tail.changes.items);
  rows_are : AreRowsOf l.index.rules.definitions l.one-iterator.rest.items l.tail.changes.items;
  room : length l.one-iterator.rest.items ≤ l.index.spare;
  rise : NotFalling l.index.last l.tail.changes.items;
  changes : drop (length l.one-iterator.rest.items) l.tail.changes.items ≡ drop (length l.fn.made.items) l.fn.tail.changes.items;
  rows : (key : Key) → rows_after (row_at l.rows) (take (length l.one-iterator.rest.items) l.tail.changes.items) key ≡ rows_after (row_at l.fn.rows) (take (length l.fn.made.items) l.fn.tail.changes.items) key;
  reach : reach_after (reached l.tail.reach) (ids l.one-iterator.rest.items) ≡ reach_after (reached l.fn.tail.reach) (ids l.fn.made.items);
  index_rules : l.index.rules ≡ l.fn.index.rules;
  index_forgotten : l.index.forgotten ≡ l.fn.index.forgotten;
  index_notes : notes_after l.fn.index.rules.definitions l.index.notes (take (length l.one-iterator.rest.items) l.tail.changes.items)
      ≡ notes_after l.fn.index.rules.definitions l.fn.index.notes (take (length l.fn.made.items) l.fn.tail.changes.items);
  index_ascend : (head : ℕ) → Ascend l.fn.index.last l.fn.tail.changes.items head → Ascend l.index.last l.tail.changes.items head;
}
