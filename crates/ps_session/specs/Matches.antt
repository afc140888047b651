-- Where buckets of one taken value stand in another.
use Rattle.std.specs.Prelude.{ℕ, suc, Bool, false, if◌then◌else◌, List, [], ◌∷◌, Option, Some, None, unwrap_or, bytes_eq, slice_get}
use Rattle.std.specs.Cmp.Lexicographic.{slice_cmp}
use Rattle.std.specs.Ordering.{nat_cmp, is_lt}
use Rattle.ps_data.specs.declared.ids.OpId.{OpId}
use Rattle.ps_lines.specs.declared.bodies.Known.{Known}
use Rattle.ps_bucket_log.specs.declared.takes.TakenBucket.{TakenBucket}
use Rattle.ps_session.specs.Takes.{is_as}
use Rattle.ps_session.specs.Sessions.{requested_in}

-- the place of the bucket of a name, where the first one has this place
abbrev pub match_from : ℕ → List ℕ → List TakenBucket → Option ℕ
match_from at name [] = None
match_from at name (bucket ∷ buckets) = if bytes_eq name bucket.name then Some at else match_from (suc at) name buckets

-- the place among others of the bucket of the same name
abbrev pub match_of : List TakenBucket → TakenBucket → Option ℕ
match_of others bucket = match_from 0 bucket.name others

abbrev pub is_below : List ℕ → List ℕ → Bool
is_below a b = is_lt (slice_cmp nat_cmp a b)

-- how many buckets at the front have names below a name
abbrev pub below_front : List ℕ → List TakenBucket → ℕ
below_front name [] = 0
below_front name (bucket ∷ buckets) = if is_below bucket.name name then suc (below_front name buckets) else 0

-- the place of the first bucket, where it has the name
abbrev pub match_at : ℕ → List ℕ → List TakenBucket → Option ℕ
match_at at name [] = None
match_at at name (bucket ∷ buckets) = if bytes_eq name bucket.name then Some at else None

abbrev pub zero_id : OpId
zero_id = record { 0 = 0 }

abbrev pub requested_place : List Known → TakenBucket → OpId
requested_place known bucket = record { 0 = requested_in known bucket.name }

-- the place that stands there, else 0
abbrev pub place_at : List OpId → Option ℕ → OpId
place_at places None = zero_id
place_at places (Some at) = unwrap_or (slice_get places at) zero_id

-- a bucket is as the one that stood there, if any stood there
abbrev pub is_as_found : List TakenBucket → Option ℕ → TakenBucket → Bool
is_as_found old None bucket = false
is_as_found old (Some at) bucket = is_as (slice_get old at) bucket
