-- Names put into an ordered set, one after the other.
use Rattle.std.proofs.Common.{◌≡◌, ℕ, ◌≤◌, List, [], ◌∷◌, ◌++◌, length, refl, arith, inl, inr}
use Rattle.std.specs.Prelude.{◌⊎◌}
use Rattle.std.specs.Ordering.{nat_cmp}
use Rattle.std.specs.Cmp.Lexicographic.{slice_cmp, nat_list_cmp_total}
use Rattle.std.specs.BTreeSet.{insert_key}
use Rattle.std.proofs.lemmas.Map.Lookups.{exact_bytes}
use Rattle.ps_data.proofs.Members.{Has}
use Rattle.ps_data.proofs.Rising.{Rises, insert_has, from_insert, insert_longer, insert_rises}
use Rattle.ps_definitions.proofs.NamesInOrder.{name_cmp}
use Rattle.ps_bucket_eval.specs.Solving.{inserted}

pub inserted_rises : (set names : List (List ℕ)) → Rises (slice_cmp nat_cmp) set → Rises (slice_cmp nat_cmp) (inserted set names)
inserted_rises set [] h = h
inserted_rises set (n ∷ ns) h = inserted_rises (insert_key name_cmp set n) ns (insert_rises name_cmp nat_list_cmp_total exact_bytes set n h)

pub has_inserted : (set names : List (List ℕ)) (q : List ℕ) → (Has set q ⊎ Has names q) → Has (inserted set names) q
has_inserted set [] q h = elim h [ inl a ↦ a | inr b ↦ absurd b ]
has_inserted set (n ∷ ns) q h = has_inserted (insert_key name_cmp set n) ns q (elim h [
  | inl a ↦ inl (insert_has name_cmp exact_bytes set n q (inr a))
  | inr b ↦ elim b [ inl e ↦ inl (insert_has name_cmp exact_bytes set n q (inl e)) | inr t ↦ inr t ]
])

pub from_inserted : (set names : List (List ℕ)) (q : List ℕ) → Has (inserted set names) q → Has set q ⊎ Has names q
from_inserted set [] q h = inl h
from_inserted set (n ∷ ns) q h = elim (from_inserted (insert_key name_cmp set n) ns q h) [
  | inl a ↦ elim (from_insert name_cmp exact_bytes set n q a) [ inl e ↦ inr (inl e) | inr b ↦ inl b ]
  | inr t ↦ inr (inr t)
]

pub inserted-append : (set xs ys : List (List ℕ)) → inserted set (xs ++ ys) ≡ inserted (inserted set xs) ys
inserted-append set [] ys = refl
inserted-append set (x ∷ xs) ys = inserted-append (insert_key name_cmp set x) xs ys

pub inserted_longer : (set names : List (List ℕ)) → length set ≤ length (inserted set names)
inserted_longer set [] = omega arith
inserted_longer set (n ∷ ns) = omega (arith, insert_longer name_cmp exact_bytes set n, inserted_longer (insert_key name_cmp set n) ns)
