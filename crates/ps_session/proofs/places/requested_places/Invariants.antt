use Rattle.std.proofs.Common.{◌≡◌, map, take}
use Rattle.ps_session.specs.Matches.{requested_place}
use Rattle.ps_session.proofs.places.requested_places.Given as goal

abbrev pub invariant-buckets : goal.invariant-buckets
invariant-buckets l = l.places.items ≡ map (requested_place l.fn.known) (take l.bucket-index l.buckets)
