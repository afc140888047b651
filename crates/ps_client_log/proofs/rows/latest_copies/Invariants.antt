use Rattle.std.proofs.Common.{◌≡◌, None}
use Rattle.std.specs.List.{AllByRecursion}
use Rattle.ps_rows.specs.Source.{Key as Object}
use Rattle.ps_client_log.specs.Lending.{noted}
use Rattle.ps_client_log.specs.Seeing.{copies_of, HoldsKeysOnce, all_seen}
use Rattle.ps_client_log.proofs.rows.latest_copies.Given as goal

-- with the copies that are left, what is noted becomes what it does with all; and keys stand once in each slot that is not left
abbrev pub invariant-slots : goal.invariant-slots
invariant-slots l =
    ((object : Object) → all_seen object (noted l.rows object) (copies_of l.name-iterator) ≡ all_seen object None (copies_of l.buckets.slots.entries))
    × (AllByRecursion HoldsKeysOnce l.name-iterator → AllByRecursion HoldsKeysOnce l.buckets.slots.entries)
