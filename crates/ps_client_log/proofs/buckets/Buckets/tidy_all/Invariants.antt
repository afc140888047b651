use Rattle.std.proofs.Common.{◌≡◌, ℕ, List}
use Rattle.ps_client_log.specs.Images.{bucket_found}
use Rattle.ps_client_log.proofs.buckets.Buckets.tidy_all.Given as goal

abbrev pub invariant-rooms : goal.invariant-rooms
invariant-rooms l = (other : List ℕ) → bucket_found l.self other ≡ bucket_found l.initial.self other
