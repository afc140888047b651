use Rattle.std.proofs.Common.{◌≡◌, ◌++◌, map}
use Rattle.ps_store.specs.Generations.{last_change}
use Rattle.ps_store.specs.Rows.{live_in}
use Rattle.ps_store.proofs.rows.Rows.changes_by_row.Given as goal

-- with those of the rows that are left, all changes are there
abbrev pub invariant-places : goal.invariant-places
invariant-places l = l.changes.items ++ map last_change (live_in l.key-iterator) ≡ map last_change (live_in l.self.places.entries)
