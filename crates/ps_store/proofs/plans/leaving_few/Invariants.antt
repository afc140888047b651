use Rattle.std.proofs.Common.{◌≡◌, take}
use Rattle.ps_store.specs.Places.{places_left}
use Rattle.ps_store.proofs.plans.leaving_few.Given as goal

-- those of the places so far that leave
abbrev pub invariant-places : goal.invariant-places
invariant-places l = l.left.items ≡ places_left (take l.place-index l.before) l.after
