use Rattle.std.proofs.Common.{◌≡◌, ◌++◌, map}
use Rattle.ps_store.specs.Places.{place_of}
use Rattle.ps_store.proofs.places.into_places.Given as goal

-- with those of the entries that are left, all are there
abbrev pub invariant-entries : goal.invariant-entries
invariant-entries l = l.places.items ++ map place_of l.entry-iterator.rest.items ≡ map place_of l.fn.entries
