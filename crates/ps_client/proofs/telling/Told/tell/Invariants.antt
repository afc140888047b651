use Rattle.std.proofs.Common.{◌≡◌}
use Rattle.ps_client.specs.Tables.{with_entries}
use Rattle.ps_client.proofs.telling.Told.tell.Given as goal

-- with the entries that are left, all are told
abbrev pub invariant-entries : goal.invariant-entries
invariant-entries l = with_entries l.self l.entry-iterator.rest.items ≡ with_entries l.initial.self l.fn.entries
