use Rattle.std.proofs.Common.{◌≡◌, ◌+◌, ◌≤◌, ◌++◌, length}
use Rattle.ps_store.specs.Originals.{timed_from}
use Rattle.ps_store.specs.Tails.{feed_room}
use Rattle.ps_store.proofs.tails.Tail.push_all.Given as goal

-- with the changes that are left, all are there
abbrev pub invariant-changes : goal.invariant-changes
invariant-changes l = record {
  changes : l.self.changes.items ++ timed_from l.fn.position.0 l.index l.change-iterator.rest.items ≡ l.fn.self.changes.items ++ timed_from l.fn.position.0 0 l.fn.changes;
  reach : l.self.reach ≡ l.fn.self.reach;
  room : length l.change-iterator.rest.items ≤ feed_room l.self;
  count : l.index + length l.change-iterator.rest.items ≡ length l.fn.changes;
}
