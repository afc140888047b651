use Rattle.std.proofs.Common.{◌≡◌, ◌++◌}
use Rattle.ps_client_sqlite.specs.Writing.{entry_write, writes_of}
use Rattle.ps_client_sqlite.proofs.differences.add_entry_writes.Given as goal

-- with the writes of those that are left these are all
abbrev pub invariant-changes : goal.invariant-changes
invariant-changes l = l.writes.items ++ writes_of entry_write l.at-iterator.rest.items ≡ l.fn.writes.items ++ writes_of entry_write l.fn.changes.items
