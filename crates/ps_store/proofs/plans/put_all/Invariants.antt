use Rattle.std.proofs.Common.{◌≡◌, ◌+◌, ◌++◌, length}
use Rattle.ps_store.specs.Originals.{put, numbered}
use Rattle.ps_store.proofs.plans.put_all.Given as goal

-- with the operations of the entries that are left, all are there
abbrev pub invariant-entries : goal.invariant-entries
invariant-entries l = record {
  ids : l.id + length l.entry-iterator.rest.items ≡ l.fn.last.0 + length l.fn.entries;
  entered : l.entered.items ++ numbered put (l.id + 1) l.entry-iterator.rest.items ≡ l.fn.entered.items ++ numbered put (l.fn.last.0 + 1) l.fn.entries;
}
