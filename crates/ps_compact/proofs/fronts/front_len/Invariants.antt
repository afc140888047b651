use Rattle.std.proofs.Common.{◌≡◌, ◌+◌, drop}
use Rattle.ps_compact.specs.Compaction.{front_count}
use Rattle.ps_compact.proofs.fronts.front_len.Given as goal

-- none so far is a PUT
abbrev pub invariant-ops : goal.invariant-ops
invariant-ops l = l.count + front_count (drop l.count l.ops) ≡ front_count l.ops
