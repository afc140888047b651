use Rattle.std.proofs.Common.{◌≡◌, map, take}
use Rattle.ps_session.specs.Matches.{place_at}
use Rattle.ps_session.proofs.places.kept_places.Given as goal

abbrev pub invariant-matches : goal.invariant-matches
invariant-matches l = l.kept.items ≡ map (place_at l.places) (take l.found-index l.matches)
