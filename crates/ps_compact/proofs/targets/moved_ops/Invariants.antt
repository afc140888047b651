use Rattle.std.proofs.Common.{◌≡◌, ◌++◌, reverse}
use Rattle.ps_compact.specs.Compaction.{moved, targets_of}
use Rattle.ps_compact.proofs.targets.moved_ops.Given as goal

-- those that are left come behind, and their targets are left
abbrev pub invariant-ops : goal.invariant-ops
invariant-ops l = record {
  moved : l.all.items ++ moved l.op-iterator.rest.items ≡ moved l.fn.ops.items;
  targets : reverse l.targets.items ≡ targets_of l.op-iterator.rest.items;
}
