use Rattle.std.proofs.Common.{◌≡◌, drop, reverse}
use Rattle.ps_bucket_log.specs.declared.ops.Key.{Key}
use Rattle.ps_compact.specs.Compaction.{last_of, targets_of}
use Rattle.ps_compact.specs.Meeting.{id_met}
use Rattle.ps_compact.proofs.targets.targets.Given as goal

-- of those behind the place: the targets, and of each key the last id
abbrev pub invariant-places : goal.invariant-places
invariant-places l = record {
  targets : reverse l.targets.items ≡ targets_of (drop l.place l.ops);
  met : (key : Key) → id_met l.met key ≡ last_of key (drop l.place l.ops);
}
