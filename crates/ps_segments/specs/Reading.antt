-- A batch while it is read: what it has so far, and what it will have.
use Rattle.std.specs.Prelude.{◌≡◌, ℕ, Bool, false, List, ◌++◌, None, length}
use Rattle.ps_bucket_log.specs.declared.ops.Op.{Op}
use Rattle.ps_bucket_log.specs.declared.batches.Batch.{Batch}
use Rattle.ps_bucket_log.specs.Ops.{upto, greatest_target}
use Rattle.ps_bucket_log.specs.Batches.{front_of, batch_from}
use Rattle.ps_segments.specs.declared.walks.Reading.{Reading}
use Rattle.ps_segments.specs.declared.walks.Walk.{Walk}
use Rattle.ps_segments.specs.declared.walks.Walk.TheVariants.{GoesOn, Ends}

-- the batch once these operations, with ids past those so far, were walked over too
abbrev pub completed : Reading → ℕ → List Op → Batch
completed reading high ops =
    batch_from (reading.ops ++ upto high ops) (reading.ops ++ front_of (length reading.ops) reading.bytes (upto high ops))

-- the batch of what was read
abbrev pub batch_with : Reading → Bool → Batch
batch_with reading more = record { ops = reading.ops; has_more = more; target = greatest_target reading.ops; passed = None }

-- the batch that a walk leads to, where these operations are left
abbrev pub led_to : Walk → Reading → ℕ → List Op → Batch
led_to GoesOn reading high ops = completed reading high ops
led_to (Ends more) reading high ops = batch_with reading more

-- whether operations are left where nothing stands behind a walk
abbrev pub is_left : Walk → Bool
is_left GoesOn = false
is_left (Ends more) = more

-- the looks of a walk past those whose operations were taken
abbrev pub looks_beside : Walk → ℕ
looks_beside GoesOn = 0
looks_beside (Ends more) = 1

-- a reading with no operations has no bytes
abbrev pub IsBegun : Reading → Type 0
IsBegun reading = length reading.ops ≡ 0 → reading.bytes ≡ 0
