-- The request that begins a stream.
use Rattle.std.specs.Prelude.{◌≡◌, ℕ, List, [], ◌∷◌, map, Some, is_some, codes, if◌then◌else◌, bytes_eq}
use Rattle.std.specs.Cmp.Lexicographic.{slice_cmp}
use Rattle.std.specs.List.Sorted.{IsStrictlySortedBy}
use Rattle.std.specs.Ordering.{nat_cmp}
use Rattle.ps_lines.specs.declared.bodies.Known.{Known}
use Rattle.ps_lines.specs.declared.bodies.StreamBody.{StreamBody}
use Rattle.ps_client_log.specs.Kept.{Kept, bucket_at}
use Rattle.ps_client.specs.Tables.{is_one_of}

-- how far a bucket is held
abbrev pub known_at : Kept → List ℕ → Known
known_at kept name = record { bucket = name; after = record { 0 = (bucket_at kept name).position } }

abbrev pub buckets_of : List Known → List (List ℕ)
buckets_of positions = map (λ (known : Known). known.bucket) positions

-- how far a request says that a bucket is held, 0 where it does not name it
abbrev pub position_in : List Known → List ℕ → ℕ
position_in [] name = 0
position_in (known ∷ positions) name = if bytes_eq name known.bucket then known.after.0 else position_in positions name

-- it names every bucket that is held with its position, by name, and the client, and has no parameters
pub record IsRequest (kept : Kept) (own : List ℕ) (body : StreamBody) : Type 0 where
  pub in_order : IsStrictlySortedBy (slice_cmp nat_cmp) (buckets_of body.positions)
  pub held : (name : List ℕ) → is_one_of (buckets_of body.positions) name ≡ is_some (kept.bucket name)
  pub positions : (name : List ℕ) → position_in body.positions name ≡ (bucket_at kept name).position
  pub client : body.client ≡ Some own
  pub parameters : body.parameters ≡ codes "{}"
