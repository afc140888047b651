-- One step of each loop over operations.
use Rattle.std.proofs.Common.{◌≡◌, ℕ, suc, ◌+◌, ◌%◌, ◌^◌, ◌<◌, ◌≤◌, true, false, ltb, leb, eqb, ◌&&◌, ◌⊎◌, inl, inr, Option, Some, None, List, [], ◌∷◌, ◌++◌, take, drop, get_or, length, sum_by, refl, sym, ap, ◌∙◌, arith, add-one, append_assoc, drop-cons}
use Rattle.std.proofs.lemmas.Bool.{cases_lt, lt-ltb, le-ltb, or_cases, and_parts, eqb-true, leb-true}
use Rattle.std.proofs.lemmas.List.{take_more, append-nil}
use Rattle.std.proofs.lemmas.List.Sums.{sum_by_push}
use Rattle.std.proofs.Math.Nat.{mod-add-mod}
use Rattle.ps_data.specs.declared.ids.OpId.{OpId}
use Rattle.ps_bucket_log.specs.declared.ops.Op.{Op}
use Rattle.ps_bucket_log.specs.Ops.{checksum, target_of, size_of, sum_of, later_id, greatest_target}
use Rattle.ps_bucket_log.specs.Batches.{most_ops, most_bytes, takes_next, front_of}

later_id-None : (a : Option OpId) → later_id a None ≡ a
later_id-None None = refl
later_id-None (Some a) = refl

later_id-assoc : (a b c : Option OpId) → later_id (later_id a b) c ≡ later_id a (later_id b c)
later_id-assoc None b c = refl
later_id-assoc (Some a) None c = refl
later_id-assoc (Some a) (Some b) None = later_id-None (later_id (Some a) (Some b))
later_id-assoc (Some a) (Some b) (Some c) = elim (cases_lt a.0 b.0) [
  | inl ab ↦ elim (cases_lt b.0 c.0) [
    | inl bc ↦ rw (lt-ltb a.0 b.0 ab, lt-ltb b.0 c.0 bc, lt-ltb a.0 c.0 (omega arith)) refl
    | inr cb ↦ rw (lt-ltb a.0 b.0 ab, le-ltb b.0 c.0 cb, lt-ltb a.0 b.0 ab) refl
  ]
  | inr ba ↦ elim (cases_lt b.0 c.0) [
    | inl bc ↦ rw (le-ltb a.0 b.0 ba, lt-ltb b.0 c.0 bc) refl
    | inr cb ↦ rw (le-ltb a.0 b.0 ba, le-ltb b.0 c.0 cb, le-ltb a.0 b.0 ba, le-ltb a.0 c.0 (omega arith)) refl
  ]
]

greatest_target-push : (ops : List Op) (op : Op) → greatest_target (ops ++ op ∷ []) ≡ later_id (greatest_target ops) (target_of op)
greatest_target-push [] op = later_id-None (target_of op)
greatest_target-push (first ∷ ops) op =
    ap (later_id (target_of first)) (greatest_target-push ops op) ∙ sym (later_id-assoc (target_of first) (greatest_target ops) (target_of op))

pub greatest_target_more : (ops : List Op) (i : ℕ) (op : Op) → i < length ops → op ≡ get_or ops i op
    → greatest_target (take (i + 1) ops) ≡ later_id (greatest_target (take i ops)) (target_of op)
greatest_target_more ops i op within is =
    ap greatest_target (take_more ops i op within ∙ ap (λ x. take i ops ++ x ∷ []) (sym is)) ∙ greatest_target-push (take i ops) op

-- one more operation is copied
pub copied_more : (ops : List Op) (i : ℕ) (op : Op) → i < length ops → op ≡ get_or ops i op → take (i + 1) ops ≡ take i ops ++ op ∷ []
copied_more ops i op within is = take_more ops i op within ∙ ap (λ x. take i ops ++ x ∷ []) (sym is)

pub sum_of_more : (ops : List Op) (i : ℕ) (op : Op) → i < length ops → op ≡ get_or ops i op
    → sum_of (take (i + 1) ops) ≡ (sum_of (take i ops) + checksum op) % 2 ^ 32
sum_of_more ops i op within is =
    ap sum_of (take_more ops i op within ∙ ap (λ x. take i ops ++ x ∷ []) (sym is))
    ∙ ap (λ n. n % 2 ^ 32) (sum_by_push checksum (take i ops) op)
    ∙ sym (mod-add-mod (sum_by checksum (take i ops)) (2 ^ 32) (checksum op))

-- what is behind the first i operations, from the next one on
behind : (asked : List Op) (i : ℕ) (op : Op) → i < length asked → op ≡ get_or asked i op → drop i asked ≡ op ∷ drop (i + 1) asked
behind asked i op within is = rw add-one (drop-cons asked i op within ∙ ap (λ x. x ∷ drop (suc i) asked) (sym is))

pub front_more : (asked : List Op) (i bytes : ℕ) (op : Op) → i < length asked → op ≡ get_or asked i op → takes_next i bytes (size_of op) ≡ true
    → take (i + 1) asked ++ front_of (i + 1) (bytes + size_of op) (drop (i + 1) asked) ≡ take i asked ++ front_of i bytes (drop i asked)
front_more asked i bytes op within is room =
    let here : front_of i bytes (drop i asked) ≡ op ∷ front_of (i + 1) (bytes + size_of op) (drop (i + 1) asked) =
    ap (front_of i bytes) (behind asked i op within is) ∙ rw room refl in
    ap (λ xs. xs ++ front_of (i + 1) (bytes + size_of op) (drop (i + 1) asked)) (take_more asked i op within ∙ ap (λ x. take i asked ++ x ∷ []) (sym is))
    ∙ append_assoc (take i asked) (op ∷ []) (front_of (i + 1) (bytes + size_of op) (drop (i + 1) asked))
    ∙ ap (λ xs. take i asked ++ xs) (sym here)

pub front_full : (asked : List Op) (i bytes : ℕ) (op : Op) → i < length asked → op ≡ get_or asked i op → takes_next i bytes (size_of op) ≡ false
    → take i asked ≡ take i asked ++ front_of i bytes (drop i asked)
front_full asked i bytes op within is full =
    let here : front_of i bytes (drop i asked) ≡ [] = ap (front_of i bytes) (behind asked i op within is) ∙ rw full refl in
    sym (ap (λ xs. take i asked ++ xs) here ∙ append-nil (take i asked))

-- an operation that is taken is the first, or the bytes stay within the limit
pub takes_next_fits : (count bytes size : ℕ) → takes_next count bytes size ≡ true → (count ≡ 0) ⊎ (bytes + size ≤ most_bytes)
takes_next_fits count bytes size room = elim (or_cases (eqb count 0) (ltb count most_ops && leb (bytes + size) most_bytes) room) [
  | inl first ↦ inl (eqb-true count 0 first)
  | inr within ↦ inr (leb-true (bytes + size) most_bytes ((and_parts (ltb count most_ops) (leb (bytes + size) most_bytes) within).1))
]
