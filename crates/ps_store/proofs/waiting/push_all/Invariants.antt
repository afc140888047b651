use Rattle.std.proofs.Common.{◌≡◌, ◌-◌, ◌≤◌, ◌++◌, length}
use Rattle.std.specs.VecDeque.{deque_len, deque_capacity}
use Rattle.ps_store.proofs.waiting.push_all.Given as goal

-- with the changes that are left, all are there
abbrev pub invariant-changes : goal.invariant-changes
invariant-changes l = record {
  changes : l.queue.items ++ l.waiting-iterator.rest.items ≡ l.fn.queue.items ++ l.fn.changes.items;
  room : length l.waiting-iterator.rest.items ≤ deque_capacity l.queue - deque_len l.queue;
}
