use Rattle.ps_client_log.specs.Images.{bucket_found}
use Rattle.ps_client_log.proofs.Listings.{Listing}
use Rattle.ps_client_log.proofs.saving.states_of.Given as goal

abbrev pub invariant-slots : goal.invariant-slots
invariant-slots l = Listing (bucket_found l.buckets) l.states l.name-iterator
