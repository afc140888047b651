-- What the readers of all buckets hold, while changes are written: the entries of the rows that stand in the source.
use Rattle.std.specs.Prelude.{◌≡◌, ℕ, ◌<◌, Bool, ◌&&◌, ◌||◌, ◌==◌, nat_lt, true, List, Contains, Option, Some}
use Rattle.std.specs.FinMap.Entries.{find}
use Rattle.ps_bucket_log.specs.declared.ops.Key.{Key as EntryKey}
use Rattle.ps_bucket_log.specs.declared.ops.Op.{Op}
use Rattle.ps_bucket_log.specs.Ops.{id_of}
use Rattle.ps_rows.specs.Source.{Key, key_cmp, Version, Source}
use Rattle.ps_definitions.specs.declared.definitions.Definition.{Definition}
use Rattle.ps_granted.specs.declared.copies.Granted.{Granted}
use Rattle.ps_bucket_eval.specs.declared.placed.Placed.{Placed}
use Rattle.ps_store.specs.Originals.{put, entries_at}

-- what is held of each key in each bucket
abbrev pub Holding : Type 0
Holding = List ℕ → EntryKey → Option Op

-- an entry of a row that stands in the source
pub record Standing (definitions : List Definition) (source : Source) : Type 0 where
  pub key : Key
  pub version : Version
  pub there : find key_cmp key source ≡ Some version
  pub entry : Placed
  pub is_entry : Contains (entries_at definitions key (Some version.columns)) entry

-- the PUT of an entry with some id
abbrev pub IsPutOf : Placed → Op → Type 0
IsPutOf entry op = (id : ℕ) × (op ≡ (put id entry).op)

-- an entry's moment is before another's: by the moment of the row, and then by the query's number
abbrev pub is_before : {definitions : List Definition} {source : Source} → Standing definitions source → Standing definitions source → Bool
is_before a b =
    nat_lt a.version.position b.version.position
    || (a.version.position == b.version.position && (nat_lt a.version.index b.version.index
    || (a.version.index == b.version.index && nat_lt a.entry.number b.entry.number)))

-- what is held is the PUTs of the entries of the rows that stand, and their ids rise with the entries' moments
pub record HoldsStanding (definitions : List Definition) (source : Source) (held : Holding) : Type 0 where
  pub each : (s : Standing definitions source) → (op : Op) × (held s.entry.bucket s.entry.key ≡ Some op) × IsPutOf s.entry op
  pub only : (bucket : List ℕ) (key : EntryKey) (op : Op) → held bucket key ≡ Some op
      → (s : Standing definitions source) × (s.entry.bucket ≡ bucket) × (s.entry.key ≡ key) × IsPutOf s.entry op
  pub rise : (a b : Standing definitions source) (x y : Op) → held a.entry.bucket a.entry.key ≡ Some x → held b.entry.bucket b.entry.key ≡ Some y
      → is_before a b ≡ true → id_of x < id_of y

-- a copy that the rules grant is of an entry: its object, its data, the moment of the row, and the query's number
pub record IsCopyOf {definitions : List Definition} {source : Source} (s : Standing definitions source) (copy : Granted) : Type 0 where
  pub kind : s.entry.key.kind ≡ copy.kind
  pub id : s.entry.key.id ≡ copy.id
  pub content : s.entry.content ≡ copy.content
  pub position : s.version.position ≡ copy.position.0
  pub index : s.version.index ≡ copy.index
  pub number : s.entry.number ≡ copy.number
