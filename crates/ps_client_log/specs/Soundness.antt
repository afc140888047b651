-- Which states are sound.
use Rattle.std.specs.Prelude.{◌≢◌, ℕ, ◌≤◌, Bool, ◌&&◌, List, [], map, IfSome, bytes_eq}
use Rattle.std.specs.List.{All, IsDistinct}
pub use Rattle.ps_data.specs.Numbers.{greatest}
use Rattle.ps_bucket_log.specs.declared.ops.Key.{Key}
use Rattle.ps_bucket_log.specs.Ops.{id_of, same_key}
use Rattle.ps_bucket_log.specs.Buckets.{Bucket}
use Rattle.ps_rows.specs.declared.shown.Shown.{Shown}
use Rattle.ps_client_log.specs.declared.states.State.{State}
use Rattle.ps_client_log.specs.declared.states.Target.{Target}
use Rattle.ps_client_log.specs.declared.states.Target.TheVariants.{Free, Pending, Number}
use Rattle.ps_client_log.specs.Kept.{Kept, kept_of}

-- two rows of one kind and one id
abbrev pub same_row : Shown → Shown → Bool
same_row a b = bytes_eq a.kind b.kind && bytes_eq a.id b.id

abbrev pub IsSoundTarget : Target → Type 0
IsSoundTarget Free = Unit {0}
IsSoundTarget Pending = Unit {0}
IsSoundTarget (Number number) = number ≤ greatest

-- a bucket's position and the ids that it holds are no greater
pub record IsSoundBucket (bucket : Bucket) : Type 0 where
  pub position : bucket.position ≤ greatest
  pub held : (key : Key) → IfSome (bucket.held key) (λ op. id_of op ≤ greatest)

-- nor is the target's number, and no table of a local write is empty
pub record IsSound (kept : Kept) : Type 0 where
  pub buckets : (name : List ℕ) → IfSome (kept.bucket name) IsSoundBucket
  pub queue : All (λ change. change.table ≢ []) kept.queue
  pub target : IsSoundTarget kept.target

-- besides, no name stands twice, no key is held twice in one bucket, and no kind and id are shown twice
pub record IsSoundState (state : State) : Type 0 where
  pub kept : IsSound (kept_of state)
  pub names : IsDistinct bytes_eq (map (λ bucket. bucket.name) state.buckets)
  pub keys : All (λ bucket. IsDistinct same_key (map (λ held. held.key) bucket.held)) state.buckets
  pub shown : IsDistinct same_row state.shown
