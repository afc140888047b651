use Rattle.std.proofs.Common.{◌≡◌, ℕ, ◌+◌, List, ◌++◌}
use Rattle.ps_store.specs.Originals.{in_bucket}
use Rattle.ps_store.specs.StoreLogs.{log_at, HasRoom, first_ops, AreRising, Continue}
use Rattle.ps_store.proofs.logs.Logs.fill.Given as goal

-- with the operations that are left, all are there, and all first ones are counted; and there is room for those
abbrev pub invariant-entered : goal.invariant-entered
invariant-entered l = record {
  logs : (bucket : List ℕ) → log_at l.self bucket ++ in_bucket bucket l.e-iterator.rest.items ≡ log_at l.fn.self bucket ++ in_bucket bucket l.fn.entered.items;
  first : l.first + first_ops (log_at l.self) l.e-iterator.rest.items ≡ first_ops (log_at l.fn.self) l.fn.entered.items;
  room : HasRoom l.self l.e-iterator.rest.items;
  newer : Continue (log_at l.self) l.e-iterator.rest.items;
  rising : AreRising (log_at l.self);
}
