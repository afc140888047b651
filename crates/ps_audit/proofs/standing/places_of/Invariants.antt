use Rattle.std.proofs.Common.{take}
use Rattle.ps_store.specs.Places.{HasPlaces}
use Rattle.ps_audit.proofs.standing.places_of.Given as goal

-- the set has the places of the entries so far
abbrev pub invariant-entries : goal.invariant-entries
invariant-entries l = HasPlaces l.places (take l.entry-index l.entries)
