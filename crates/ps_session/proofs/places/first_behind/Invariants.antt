use Rattle.std.proofs.Common.{◌≡◌, ◌+◌, drop}
use Rattle.ps_session.specs.Kept.{done_front}
use Rattle.ps_session.proofs.places.first_behind.Given as goal

abbrev pub invariant-buckets : goal.invariant-buckets
invariant-buckets l = l.from + done_front (drop l.from l.buckets) (drop l.from l.places) ≡ l.at + done_front (drop l.at l.buckets) (drop l.at l.places)
