-- What is told of buckets, as a map holds it.
use Rattle.std.proofs.Common.{◌≡◌, ℕ, true, false, not, ◌&&◌, List, [], ◌∷◌, ◌++◌, Some, Less, map, filter, refl, sym, ap, ◌∙◌, subst, inl, inr, append_assoc, eqb}
use Rattle.std.specs.Prelude.{bytes_eq}
use Rattle.std.specs.BTreeMap.{is_at}
use Rattle.std.specs.Cmp.Lexicographic.{slice_cmp, texts_ties, nat_list_eq_equiv}
use Rattle.std.specs.List.{list_all, AllByRecursion}
use Rattle.std.specs.List.Sorted.{IsStrictlySortedBy}
use Rattle.std.specs.Map.{lookup, keys_of, remove_entry}
use Rattle.std.specs.Option.{option_map_or}
use Rattle.std.specs.Ordering.{nat_cmp, is_eq}
use Rattle.std.proofs.lemmas.Bool.{cases_Bool, not_from_true, not_from_false, ne_eqb, eq-eqb}
use Rattle.std.proofs.lemmas.Map.Keys.{sorted_head, sorted_tail}
use Rattle.std.proofs.lemmas.Slice.Eq.{bytes_eq-Decides}
use Rattle.ps_lines.specs.declared.lines.Entry.{Entry}
use Rattle.ps_checksum.specs.declared.sums.Sum.{Sum}
use Rattle.ps_client_log.specs.Kept.{Kept, bucket_at}
use Rattle.ps_client.specs.declared.events.Differing.{Differing}
use Rattle.ps_client.specs.Tables.{Entries, is_one_of, told, without, told_sum, differs, difference, differing, agrees}

pub same_name : (a b : List ℕ) → bytes_eq a b ≡ true → a ≡ b
same_name a b = (bytes_eq-Decides a b).0

pub bytes_eq-self : (a : List ℕ) → bytes_eq a a ≡ true
bytes_eq-self a = nat_list_eq_equiv.refl a

-- a map's own look-up
pub lookup_at : (name : List ℕ) (entries : Entries) → lookup (is_at (slice_cmp nat_cmp name)) entries ≡ told entries name
lookup_at name entries = sym (λ i. lookup (λ key. texts_ties name key i) entries)

apart_from_less : (a b : List ℕ) → slice_cmp nat_cmp a b ≡ Less → bytes_eq a b ≡ false
apart_from_less a b less = texts_ties a b ∙ ap is_eq less

-- ---- entries that are forgotten

-- nothing below all of them is among these entries
others_stay : (name : List ℕ) (entries : Entries) → AllByRecursion (λ key. slice_cmp nat_cmp name key ≡ Less) (keys_of entries)
    → filter (λ (pair : List ℕ × Entry). not (bytes_eq pair.0 name)) entries ≡ entries
others_stay name [] below = refl
others_stay name (pair ∷ pairs) below =
    let apart : bytes_eq pair.0 name ≡ false = nat_list_eq_equiv.symm pair.0 name ∙ apart_from_less name pair.0 below.0 in
    rw apart (ap (λ rest. pair ∷ rest) (others_stay name pairs below.1))

pub removed : (name : List ℕ) (entries : Entries) → IsStrictlySortedBy (slice_cmp nat_cmp) (keys_of entries)
    → remove_entry (is_at (slice_cmp nat_cmp name)) entries ≡ filter (λ (pair : List ℕ × Entry). not (bytes_eq pair.0 name)) entries
removed name [] sorted = refl
removed name (pair ∷ pairs) sorted =
    let behind = removed name pairs (sorted_tail (slice_cmp nat_cmp) pair.0 (keys_of pairs) sorted) in
    let below = sorted_head (slice_cmp nat_cmp) pair.0 (keys_of pairs) sorted in
    elim (cases_Bool (bytes_eq name pair.0)) [
      | inl same ↦
          let here : is_at (slice_cmp nat_cmp name) pair.0 ≡ true = sym (texts_ties name pair.0) ∙ same in
          let back : bytes_eq pair.0 name ≡ true = nat_list_eq_equiv.symm pair.0 name ∙ same in
          let is : name ≡ pair.0 = same_name name pair.0 same in
          rw (here, back) (sym (others_stay name pairs (subst (λ one. AllByRecursion (λ key. slice_cmp nat_cmp one key ≡ Less) (keys_of pairs)) (sym is) below)))
      | inr apart ↦
          let here : is_at (slice_cmp nat_cmp name) pair.0 ≡ false = sym (texts_ties name pair.0) ∙ apart in
          let back : bytes_eq pair.0 name ≡ false = nat_list_eq_equiv.symm pair.0 name ∙ apart in
          rw (here, back) (ap (λ rest. pair ∷ rest) behind)
    ]

-- one name after another
pub without_more : (name : List ℕ) (names : List (List ℕ)) (entries : Entries)
    → without names (filter (λ (pair : List ℕ × Entry). not (bytes_eq pair.0 name)) entries) ≡ without (name ∷ names) entries
without_more name names [] = refl
without_more name names (pair ∷ pairs) =
    let behind = without_more name names pairs in
    elim (cases_Bool (bytes_eq pair.0 name)) [
      | inl same ↦ rw same behind
      | inr apart ↦ elim (cases_Bool (is_one_of names pair.0)) [
        | inl one ↦ rw (apart, one) behind
        | inr none ↦ rw (apart, none) (ap (λ rest. pair ∷ rest) behind)
      ]
    ]

pub without_none : (entries : Entries) → without [] entries ≡ entries
without_none [] = refl
without_none (pair ∷ pairs) = ap (λ rest. pair ∷ rest) (without_none pairs)

-- ---- buckets that differ

-- a bucket that differs is listed
pub differing_more : (kept : Kept) (all : Entries) (done : List Differing) (name : List ℕ) (names : List (List ℕ)) → differs kept all name ≡ true
    → (done ++ difference kept all name ∷ []) ++ map (difference kept all) (filter (differs kept all) names)
    ≡ done ++ map (difference kept all) (filter (differs kept all) (name ∷ names))
differing_more kept all done name names is = rw is (append_assoc done (difference kept all name ∷ []) (map (difference kept all) (filter (differs kept all) names)))

-- and one that does not is not
pub differing_same : (kept : Kept) (all : Entries) (done : List Differing) (name : List ℕ) (names : List (List ℕ)) → differs kept all name ≡ false
    → done ++ map (difference kept all) (filter (differs kept all) names)
    ≡ done ++ map (difference kept all) (filter (differs kept all) (name ∷ names))
differing_same kept all done name names is = rw is refl

-- what is told of a bucket, as a walk over a map finds it
pub told_found : (entries value : Entries) (name : List ℕ) (entry : Entry) → entries ≡ value → lookup (is_at (slice_cmp nat_cmp name)) entries ≡ Some entry → told value name ≡ Some entry
told_found entries value name entry is found = ap (λ one. told one name) (sym is) ∙ sym (lookup_at name entries) ∙ found

sum_found : (entries : Entries) (name : List ℕ) (entry : Entry) → told entries name ≡ Some entry → told_sum entries name ≡ entry.sum.0
sum_found entries name entry is = ap (λ found. option_map_or (λ (one : Entry). one.sum.0) found 0) is

pub differs_yes : (kept : Kept) (all : Entries) (pair : List ℕ × Entry) (own : ℕ) → told all pair.0 ≡ Some pair.1 → own ≡ (bucket_at kept pair.0).total → (own ≡ pair.1.sum.0 → ⊥)
    → differs kept all pair.0 ≡ true
differs_yes kept all pair own found is apart =
    not_from_false (eqb (bucket_at kept pair.0).total (told_sum all pair.0)) (ne_eqb (bucket_at kept pair.0).total (told_sum all pair.0) (λ same. apart (is ∙ same ∙ sum_found all pair.0 pair.1 found)))

pub differs_no : (kept : Kept) (all : Entries) (pair : List ℕ × Entry) (own : ℕ) → told all pair.0 ≡ Some pair.1 → own ≡ (bucket_at kept pair.0).total → own ≡ pair.1.sum.0
    → differs kept all pair.0 ≡ false
differs_no kept all pair own found is same =
    not_from_true (eqb (bucket_at kept pair.0).total (told_sum all pair.0)) (eq-eqb (bucket_at kept pair.0).total (told_sum all pair.0) (sym is ∙ same ∙ sym (sum_found all pair.0 pair.1 found)))

-- the bucket of an entry is listed
pub listed_more : (kept : Kept) (all : Entries) (done new : List Differing) (pair : List ℕ × Entry) (left pairs : Entries) (bucket : List ℕ) (own : Sum)
    → told all pair.0 ≡ Some pair.1 → own.0 ≡ (bucket_at kept pair.0).total → (own.0 ≡ pair.1.sum.0 → ⊥) → bucket ≡ pair.0
    → new ≡ done ++ record { bucket = bucket; own = own; line = pair.1.sum } ∷ [] → left ≡ pair ∷ pairs
    → done ++ map (difference kept all) (filter (differs kept all) (keys_of left)) ≡ differing kept all
    → new ++ map (difference kept all) (filter (differs kept all) (keys_of pairs)) ≡ differing kept all
listed_more kept all done new pair left pairs bucket own found is apart named pushed next before =
    ap (λ one. one ++ map (difference kept all) (filter (differs kept all) (keys_of pairs))) (pushed ∙ (λ i. done ++ item i ∷ []))
    ∙ differing_more kept all done pair.0 (keys_of pairs) (differs_yes kept all pair own.0 found is apart)
    ∙ ap (λ one. done ++ map (difference kept all) (filter (differs kept all) (keys_of one))) (sym next)
    ∙ before
  where
    item : (record { bucket = bucket; own = own; line = pair.1.sum }) ≡ difference kept all pair.0
    item = λ i. record { bucket = named i; own = record { 0 = is i }; line = record { 0 = sym (sum_found all pair.0 pair.1 found) i } }

-- and is not where its total agrees
pub listed_same : (kept : Kept) (all : Entries) (done : List Differing) (pair : List ℕ × Entry) (left pairs : Entries) (own : ℕ)
    → told all pair.0 ≡ Some pair.1 → own ≡ (bucket_at kept pair.0).total → own ≡ pair.1.sum.0 → left ≡ pair ∷ pairs
    → done ++ map (difference kept all) (filter (differs kept all) (keys_of left)) ≡ differing kept all
    → done ++ map (difference kept all) (filter (differs kept all) (keys_of pairs)) ≡ differing kept all
listed_same kept all done pair left pairs own found is same next before =
    differing_same kept all done pair.0 (keys_of pairs) (differs_no kept all pair own found is same)
    ∙ ap (λ one. done ++ map (difference kept all) (filter (differs kept all) (keys_of one))) (sym next)
    ∙ before

-- the entries that are left agree where this one does
pub agrees_more : (kept : Kept) (all : Entries) (pair : List ℕ × Entry) (left pairs : Entries) (own : ℕ)
    → told all pair.0 ≡ Some pair.1 → own ≡ (bucket_at kept pair.0).total → own ≡ pair.1.sum.0 → left ≡ pair ∷ pairs
    → list_all (λ name. not (differs kept all name)) (keys_of left) ≡ agrees kept all
    → list_all (λ name. not (differs kept all name)) (keys_of pairs) ≡ agrees kept all
agrees_more kept all pair left pairs own found is same next before =
    sym (ap (λ b. not b && list_all (λ name. not (differs kept all name)) (keys_of pairs)) (differs_no kept all pair own found is same))
    ∙ ap (λ one. list_all (λ name. not (differs kept all name)) (keys_of one)) (sym next)
    ∙ before

pub agrees_not : (kept : Kept) (all : Entries) (pair : List ℕ × Entry) (left pairs : Entries) (own : ℕ)
    → told all pair.0 ≡ Some pair.1 → own ≡ (bucket_at kept pair.0).total → (own ≡ pair.1.sum.0 → ⊥) → left ≡ pair ∷ pairs
    → list_all (λ name. not (differs kept all name)) (keys_of left) ≡ agrees kept all
    → false ≡ agrees kept all
agrees_not kept all pair left pairs own found is apart next before =
    sym (ap (λ b. not b && list_all (λ name. not (differs kept all name)) (keys_of pairs)) (differs_yes kept all pair own found is apart))
    ∙ ap (λ one. list_all (λ name. not (differs kept all name)) (keys_of one)) (sym next)
    ∙ before
