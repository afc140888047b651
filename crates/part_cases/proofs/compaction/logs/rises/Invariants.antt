use Rattle.std.proofs.Common.{◌≡◌, take}
use Rattle.ps_bucket_log.specs.Ops.{place_after}
use Rattle.ps_bucket_log.specs.Logs.{IsRising}
use Rattle.part_cases.proofs.compaction.logs.rises.Given as goal

-- those so far rise up to the last one
abbrev pub invariant-ops : goal.invariant-ops
invariant-ops l = record {
  rising : IsRising 0 (take l.op-index l.ops);
  last : place_after 0 (take l.op-index l.ops) ≡ l.last;
}
