use Rattle.std.proofs.Common.{◌≡◌, ◌+◌, ◌++◌, length}
use Rattle.ps_store.specs.Places.{removed_all}
use Rattle.ps_store.proofs.plans.remove_all.Given as goal

-- with the operations of the places that are left, all are there
abbrev pub invariant-places : goal.invariant-places
invariant-places l = record {
  ids : l.id + length l.place-iterator.rest.items ≡ l.fn.last.0 + length l.fn.places;
  entered : l.entered.items ++ removed_all (l.id + 1) l.place-iterator.rest.items ≡ l.fn.entered.items ++ removed_all (l.fn.last.0 + 1) l.fn.places;
}
