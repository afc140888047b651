use Rattle.ps_client.proofs.Maps.{none_differs, each_differs}
use Rattle.ps_client.proofs.laws.only_differing_buckets_are_refused.Goals as goal

pub returns : goal.returns
returns c = record { none = none_differs; each = each_differs }
