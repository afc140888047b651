-- The checksum of each original operation has 32 bits.
use Rattle.std.proofs.Common.{refl, ◌≡◌, ℕ, ◌+◌, ◌*◌, ◌^◌, ◌<◌, Bool, true, false, cond, List, [], ◌∷◌, ◌++◌, filter, subst, sym, length, arith}
use Rattle.std.specs.Int.{w32, from_le_bytes, byte_at}
use Rattle.std.specs.List.{AllByRecursion}
use Rattle.std.specs.Prelude.{bytes_eq, if◌then◌else◌, slice_index}
use Rattle.std.proofs.Math.Nat.{mod-lt}
use Rattle.sha2.specs.Sha256.{sha256, digest_bytes, final_hash, initial_hash_256}
use Rattle.ps_checksum.specs.Sums.{checksum_of}
use Rattle.ps_bucket_log.specs.declared.ops.Op.{Op}
use Rattle.ps_bucket_log.specs.Ops.{checksum}
use Rattle.ps_bucket_eval.specs.declared.placed.Placed.{Placed}
use Rattle.ps_store.specs.Generations.{mark_of, Lane, lane_next}
use Rattle.ps_store.specs.Originals.{Entered, Timed, key_of, standing_entries, entries_at, leaving, removed, put, numbered, in_bucket}
use Rattle.ps_store.specs.Steps.{marked}
use Rattle.ps_store.proofs.Filling.{in_bucket_cons}

-- ---- lists

pub every_append : {X : Type 0} (P : X → Type 0) (xs ys : List X) → AllByRecursion P xs → AllByRecursion P ys → AllByRecursion P (xs ++ ys)
every_append P [] ys h k = k
every_append P (x ∷ xs) ys h k = (h.0, every_append P xs ys h.1 k)

pub every_front : {X : Type 0} (P : X → Type 0) (xs ys : List X) → AllByRecursion P (xs ++ ys) → AllByRecursion P xs
every_front P [] ys h = tt
every_front P (x ∷ xs) ys h = (h.0, every_front P xs ys h.1)

pub every_filtered : {X : Type 0} (P : X → Type 0) (p : X → Bool) (xs : List X) → AllByRecursion P xs → AllByRecursion P (filter p xs)
every_filtered P p [] h = tt
every_filtered P p (x ∷ xs) h = by (p x) (every_filtered P p xs h.1)
  where
    by : (b : Bool) → AllByRecursion P (filter p xs) → AllByRecursion P (cond b (x ∷ filter p xs) (filter p xs))
    by true rest = (h.0, rest)
    by false rest = rest

-- ---- checksums

-- four bytes of a digest are a number of 32 bits
four_bytes : (hash : List ℕ) → from_le_bytes w32 (digest_bytes hash 8) < 2 ^ 32
unfolding digest_bytes
four_bytes hash =
    let word : ℕ = slice_index hash 0 in
    let is : from_le_bytes w32 (digest_bytes hash 8) ≡ byte_at 3 word + byte_at 2 word * 256 ^ 1 + byte_at 1 word * 256 ^ 2 + byte_at 0 word * 256 ^ 3 = refl in
    let a : byte_at 3 word < 256 = mod-lt _ (omega arith) in
    let b : byte_at 2 word < 256 = mod-lt _ (omega arith) in
    let c : byte_at 1 word < 256 = mod-lt _ (omega arith) in
    let d : byte_at 0 word < 256 = mod-lt _ (omega arith) in
    omega (arith, is, a, b, c, d)

pub checksum_low : (bytes : List ℕ) → (checksum_of bytes).0 < 2 ^ 32
unfolding checksum_of sha256
checksum_low bytes = four_bytes (final_hash initial_hash_256 bytes)

-- ---- original operations

abbrev pub AreSummed : List Op → Type 0
AreSummed ops = AllByRecursion (λ (op : Op). checksum op < 2 ^ 32) ops

abbrev pub AreEnteredSummed : List Entered → Type 0
AreEnteredSummed es = AllByRecursion (λ (e : Entered). checksum e.op < 2 ^ 32) es

summed_numbered : (make : ℕ → Placed → Entered) → ((n : ℕ) (x : Placed) → checksum (make n x).op < 2 ^ 32) → (next : ℕ) (xs : List Placed) → AreEnteredSummed (numbered make next xs)
summed_numbered make says next [] = tt
summed_numbered make says next (x ∷ xs) = (says next x, summed_numbered make says (next + 1) xs)

summed_marked : (mark : List ℕ) (es : List Entered) → AreEnteredSummed es → AreEnteredSummed (marked mark es)
summed_marked mark [] h = tt
summed_marked mark (e ∷ es) h = (h.0, summed_marked mark es h.1)

pub lane_summed : (lane : Lane) (last : ℕ) (t : Timed) → AreEnteredSummed (lane_next lane last t)
lane_summed lane last t =
    let old : List Placed = standing_entries lane.rules.definitions lane.source (key_of t) in
    let new : List Placed = entries_at lane.rules.definitions (key_of t) t.change.row in
    let gone : List Placed = leaving old new in
    let removes : List Entered = numbered removed (last + 1) gone in
    let puts : List Entered = numbered put (last + 1 + length gone) new in
    summed_marked (mark_of lane.number) (removes ++ puts) (every_append (λ (e : Entered). checksum e.op < 2 ^ 32) removes puts
    (summed_numbered removed (λ n x. checksum_low _) (last + 1) gone)
    (summed_numbered put (λ n x. checksum_low _) (last + 1 + length gone) new))

pub summed_in : (bucket : List ℕ) (es : List Entered) → AreEnteredSummed es → AreSummed (in_bucket bucket es)
summed_in bucket [] h = tt
summed_in bucket (e ∷ es) h = subst AreSummed (sym (in_bucket_cons bucket e es)) (by (bytes_eq bucket e.bucket) (summed_in bucket es h.1))
  where
    by : (b : Bool) → AreSummed (in_bucket bucket es) → AreSummed (if b then e.op ∷ in_bucket bucket es else in_bucket bucket es)
    by true rest = (h.0, rest)
    by false rest = rest
