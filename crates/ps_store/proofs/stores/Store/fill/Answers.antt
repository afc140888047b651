use Rattle.std.proofs.Common.{arith}
use Rattle.ps_store.specs.StoreLogs.{log_at}
use Rattle.ps_store.proofs.Counting.{first_low}
use Rattle.ps_store.proofs.stores.Store.fill.Goals as goal

pub write-requires-clause-first : goal.write-requires-clause-first
write-requires-clause-first c =
    let low = first_low c.into_parts-seen.result.1.items (log_at c.args.self.now.logs) in
    omega (arith, low, c.fill-first.ensures.first, c.len-operations.ensures)
