-- What each edit makes of what is kept, and when it can be made.
use Rattle.std.specs.Prelude.{◌≢◌, ℕ, ◌≤◌, if◌then◌else◌, List, [], ◌∷◌, ◌++◌, Option, Some, None, fold, drop, bytes_eq}
use Rattle.std.specs.List.{IsDistinct}
use Rattle.ps_bucket_log.specs.declared.ops.Op.{Op}
use Rattle.ps_bucket_log.specs.Ops.{newest}
use Rattle.ps_bucket_log.specs.Buckets.{Bucket, after}
use Rattle.ps_bucket_log.specs.Logs.{IsRising}
use Rattle.ps_client_log.specs.declared.edits.Edit.{Edit}
use Rattle.ps_client_log.specs.declared.edits.Edit.TheVariants.{Take, Delete, Push, Pop, Aim, Show}
use Rattle.ps_client_log.specs.Kept.{Kept, bucket_at, shown_in}
use Rattle.ps_client_log.specs.Soundness.{greatest, same_row, IsSound, IsSoundTarget}

-- what is kept with this in the place of the bucket
abbrev pub with_bucket : List ℕ → Option Bucket → Kept → Kept
with_bucket name bucket kept = record kept { bucket = λ other. if bytes_eq name other then bucket else kept.bucket other }

-- the bucket takes operations, one after another; no operations make no bucket
abbrev pub with_taken : List ℕ → List Op → Kept → Kept
with_taken name [] kept = kept
with_taken name (op ∷ ops) kept = with_bucket name (Some (fold after (bucket_at kept name) (op ∷ ops))) kept

abbrev pub with_edit : Kept → Edit → Kept
with_edit kept (Take bucket ops) = with_taken bucket ops kept
with_edit kept (Delete bucket) = with_bucket bucket None kept
with_edit kept (Push change) = record kept { queue = kept.queue ++ change ∷ [] }
with_edit kept Pop = record kept { queue = drop 1 kept.queue }
with_edit kept (Aim target) = record kept { target = target }
with_edit kept (Show rows) = record kept { shown = shown_in rows }

-- the edits, one after another
abbrev pub with_edits : Kept → List Edit → Kept
with_edits kept edits = fold with_edit kept edits

-- the ids rise from past a position, up to the greatest
pub record CanTake (position : ℕ) (ops : List Op) : Type 0 where
  pub rising : IsRising position ops
  pub within : newest ops ≤ greatest

abbrev pub CanMake : Kept → Edit → Type 0
CanMake kept (Take bucket ops) = CanTake (bucket_at kept bucket).position ops
CanMake kept (Delete bucket) = Unit {0}
CanMake kept (Push change) = change.table ≢ []
CanMake kept Pop = kept.queue ≢ []
CanMake kept (Aim target) = IsSoundTarget target
CanMake kept (Show rows) = IsDistinct same_row rows

-- each edit can be made in its turn, and leaves what is sound
abbrev pub CanMakeAll : Kept → List Edit → Type 0
CanMakeAll kept [] = Unit {0}
CanMakeAll kept (edit ∷ edits) = CanMake kept edit × IsSound (with_edit kept edit) × CanMakeAll (with_edit kept edit) edits
