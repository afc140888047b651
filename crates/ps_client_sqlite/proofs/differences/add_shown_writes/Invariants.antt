use Rattle.std.proofs.Common.{◌≡◌, ◌++◌}
use Rattle.ps_client_sqlite.specs.Writing.{shown_write, writes_of}
use Rattle.ps_client_sqlite.proofs.differences.add_shown_writes.Given as goal

-- with the writes of those that are left these are all
abbrev pub invariant-changes : goal.invariant-changes
invariant-changes l = l.writes.items ++ writes_of shown_write l.at-iterator.rest.items ≡ l.fn.writes.items ++ writes_of shown_write l.fn.changes.items
