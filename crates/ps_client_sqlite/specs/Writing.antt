-- The rows of a state as their tables hold them, by their keys, and the writes of changes among them.
use Rattle.std.specs.Prelude.{◌≡◌, ◌≢◌, ◌⊎◌, ◌&&◌, ℕ, ℤ, List, [], ◌∷◌, ◌++◌, map, Option, Some, None, Bool, bytes_eq}
use Rattle.std.specs.List.{flat_map}
use Rattle.ps_bucket_log.specs.declared.ops.Key.{Key}
use Rattle.ps_rows.specs.declared.shown.Shown.{Shown}
use Rattle.ps_client_log.specs.declared.states.BucketState.{BucketState}
use Rattle.ps_client_log.specs.declared.states.Held.{Held}
use Rattle.ps_client_log.specs.declared.states.Target.{Target}
use Rattle.ps_client_log.specs.Images.{key_eq}
use Rattle.ps_client_lines.specs.declared.lines.Queued.{Queued}
use Rattle.ps_client_sqlite.specs.declared.writes.RowWrite.{RowWrite}
use Rattle.ps_client_sqlite.specs.declared.writes.RowWrite.TheVariants.{PutBucket, DropBucket, PutEntry, DropEntry, PutQueued, DropQueued, PutAim, PutShown, DropShown}
use Rattle.ps_client_sqlite.specs.Differing.{rows_at, AreChanges}

-- ---- the rows of each table

abbrev pub bucket_pair : BucketState → List ℕ × (ℕ × ℕ)
bucket_pair bucket = (bucket.name, (bucket.position.0, bucket.added.0))

abbrev pub entry_pair : List ℕ → Held → (List ℕ × Key) × Held
entry_pair name held = ((name, held.key), held)

abbrev pub entry_pairs : List BucketState → List ((List ℕ × Key) × Held)
entry_pairs buckets = flat_map (λ bucket. map (entry_pair bucket.name) bucket.held) buckets

abbrev pub queued_pair : Queued → ℤ × List ℕ
queued_pair line = (line.seq, line.text)

abbrev pub shown_pair : Shown → (List ℕ × List ℕ) × List ℕ
shown_pair row = ((row.kind, row.id), row.content)

-- ---- the write of each change

abbrev pub bucket_write : List ℕ → Option (ℕ × ℕ) → RowWrite
bucket_write name None = DropBucket name
bucket_write name (Some bucket) = PutBucket name (record { 0 = bucket.0 }) (record { 0 = bucket.1 })

abbrev pub entry_write : List ℕ × Key → Option Held → RowWrite
entry_write at None = DropEntry at.0 at.1
entry_write at (Some held) = PutEntry at.0 held

abbrev pub queued_write : ℤ → Option (List ℕ) → RowWrite
queued_write seq None = DropQueued seq
queued_write seq (Some text) = PutQueued seq text

abbrev pub shown_write : List ℕ × List ℕ → Option (List ℕ) → RowWrite
shown_write at None = DropShown at.0 at.1
shown_write at (Some content) = PutShown (record { kind = at.0; id = at.1; content = content })

-- the write of each change
abbrev pub writes_of : {K V : Type 0} → (K → Option V → RowWrite) → List (K × Option V) → List RowWrite
writes_of write changes = map (λ change. write change.0 change.1) changes

-- ---- the tests for keys of two parts

abbrev pub place_eq : List ℕ × Key → List ℕ × Key → Bool
place_eq a b = bytes_eq a.0 b.0 && key_eq a.1 b.1

abbrev pub object_eq : List ℕ × List ℕ → List ℕ × List ℕ → Bool
object_eq a b = bytes_eq a.0 b.0 && bytes_eq a.1 b.1

-- ---- what is added to the writes

-- the writes of changes that make new rows of old ones
abbrev pub AddsChanges : {K V : Type 0} → (K → K → Bool) → (K → Option V → RowWrite) → List (K × V) → List (K × V) → List RowWrite → List RowWrite → Type 0
AddsChanges {K} {V} same write before after old new =
    (changes : List (K × Option V)) × AreChanges same (rows_at same before) (rows_at same after) changes × (new ≡ old ++ writes_of write changes)

-- the write of a target that changes
abbrev pub AddsTarget : Target → Target → List RowWrite → List RowWrite → Type 0
AddsTarget before after old new = ((before ≡ after) × (new ≡ old)) ⊎ ((before ≢ after) × (new ≡ old ++ PutAim after ∷ []))
