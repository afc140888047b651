-- Keys whose order is a tie are the same, and what is met of them.
use Rattle.std.proofs.Common.{◌≡◌, Bool, true, false, ◌&&◌, cond, inl, inr, Option, Some, None, List, refl, ap, ◌∙◌}
use Rattle.std.proofs.lemmas.Bool.{and_parts, cases_Bool}
use Rattle.std.proofs.lemmas.Slice.Eq.{bytes_eq-Decides}
use Rattle.std.proofs.lemmas.Map.Text.{is_eq-slice_cmp}
use Rattle.std.specs.Prelude.{bytes_eq}
use Rattle.std.specs.Ordering.{nat_cmp, is_eq, ordering_then}
use Rattle.std.specs.declared.cmp.Ordering.{Ordering}
use Rattle.std.specs.declared.cmp.Ordering.TheVariants.{Less, Equal, Greater}
use Rattle.std.specs.Cmp.Lexicographic.{slice_cmp, nat_list_eq_equiv}
use Rattle.ps_data.specs.declared.ids.OpId.{OpId}
use Rattle.ps_bucket_log.specs.declared.ops.Key.{Key}
use Rattle.ps_bucket_log.specs.declared.ops.Op.{Op}
use Rattle.ps_bucket_log.specs.declared.ops.Op.TheVariants.{Put, Remove, Move, Clear}
use Rattle.ps_bucket_log.specs.Ops.{same_key}
use Rattle.ps_compact.specs.Compaction.{first_id, last_of, target_behind}
use Rattle.ps_compact.specs.Meeting.{key_cmp, target_among}

tied : (a b : Ordering) → is_eq (ordering_then a b) ≡ (is_eq a && is_eq b)
tied Less b = refl
tied Equal b = refl
tied Greater b = refl

and_assoc : (x y z : Bool) → (x && (y && z)) ≡ ((x && y) && z)
and_assoc true y z = refl
and_assoc false y z = refl

pub same_key-symm : (a b : Key) → same_key a b ≡ same_key b a
same_key-symm a b =
    rw (nat_list_eq_equiv.symm a.kind b.kind, nat_list_eq_equiv.symm a.id b.id, nat_list_eq_equiv.symm a.subkey b.subkey) refl

is_eq-key_cmp : (a b : Key) → is_eq (key_cmp a b) ≡ same_key a b
is_eq-key_cmp a b =
    tied (slice_cmp nat_cmp a.kind b.kind) (ordering_then (slice_cmp nat_cmp a.id b.id) (slice_cmp nat_cmp a.subkey b.subkey))
    ∙ rw (tied (slice_cmp nat_cmp a.id b.id) (slice_cmp nat_cmp a.subkey b.subkey), is_eq-slice_cmp a.kind b.kind, is_eq-slice_cmp a.id b.id, is_eq-slice_cmp a.subkey b.subkey)
    (and_assoc (bytes_eq a.kind b.kind) (bytes_eq a.id b.id) (bytes_eq a.subkey b.subkey))

pub same_key-true : (a b : Key) → same_key a b ≡ true → a ≡ b
same_key-true a b same =
    let parts = and_parts (bytes_eq a.kind b.kind && bytes_eq a.id b.id) (bytes_eq a.subkey b.subkey) same in
    let front = and_parts (bytes_eq a.kind b.kind) (bytes_eq a.id b.id) parts.0 in
    let kind : a.kind ≡ b.kind = (bytes_eq-Decides a.kind b.kind).0 front.0 in
    let id : a.id ≡ b.id = (bytes_eq-Decides a.id b.id).0 front.1 in
    let subkey : a.subkey ≡ b.subkey = (bytes_eq-Decides a.subkey b.subkey).0 parts.1 in
    λ i. record { kind = kind i; id = id i; subkey = subkey i }

first_id-none : (a : Option OpId) → a ≡ first_id a None
first_id-none None = refl
first_id-none (Some a) = refl

-- what is met after a key that was not met before
pub met_more : (met : Key → Option OpId) (key other : Key) (id : OpId) (now : Option OpId) → met key ≡ None
    → now ≡ cond (is_eq (key_cmp key other)) (Some id) (met other)
    → now ≡ first_id (met other) (cond (same_key other key) (Some id) None)
met_more met key other id now none is = elim (cases_Bool (same_key other key)) [
  | inl same ↦
      let unmet : met other ≡ None = ap met (same_key-true other key same) ∙ none in
      is ∙ rw (is_eq-key_cmp key other, same_key-symm key other, same, unmet) refl
  | inr apart ↦ is ∙ rw (is_eq-key_cmp key other, same_key-symm key other, apart) (first_id-none (met other))
]

-- the target of an operation, where the last ids of the keys behind it were met
pub target_is : (met : Key → Option OpId) (op : Op) (ops : List Op) → ((key : Key) → met key ≡ last_of key ops) → target_among met op ≡ target_behind op ops
target_is met (Put id key content sum) ops all = all key
target_is met (Remove id key sum) ops all = all key
target_is met (Move id sum target) ops all = refl
target_is met (Clear id sum target) ops all = refl
