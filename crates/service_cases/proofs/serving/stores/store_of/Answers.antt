use Rattle.std.proofs.Common.{[]}
use Rattle.service_cases.proofs.serving.stores.store_of.Goals as goal

pub returns : goal.returns
returns c = (
  record { rules = c.in_ok-rules.rules; limits = c.in_ok-limits.limits },
  [],
  c.in_ok-store.ensures,
)
