-- The entries of a map after a change, as entries of a source.
use Rattle.std.proofs.Common.{◌≡◌, Bool, true, false, not, cond, List, [], ◌∷◌, Some, Ordering, Less, Equal, Greater, map, refl, sym, ap, ◌∙◌}
use Rattle.std.specs.List.{AllByRecursion}
use Rattle.std.specs.List.Sorted.{IsStrictlySortedBy}
use Rattle.std.specs.Map.{keys_of, lookup, remove_entry}
use Rattle.std.specs.BTreeMap.{insert_entry, is_at}
use Rattle.std.specs.Cmp.{IsTotalOrder}
use Rattle.std.specs.FinMap.Entries.{put, find, where_key, by_order}
use Rattle.std.specs.Ordering.{is_eq, eq_by_cmp, match_ordering}

module _ {K X Y : Type 0} (R : K → K → Ordering) (f : X → Y) where
  -- entries with their values changed
  abbrev pub changed : List (K × X) → List (K × Y)
  changed es = map (λ e. (e.0, f e.1)) es

  pub inserted : (k : K) (v : X) (es : List (K × X)) → changed (insert_entry R es k v) ≡ put R k (f v) (changed es)
  inserted k v [] = refl
  inserted k v (e ∷ es) =
      elim (R k e.0) as (λ o. changed (match_ordering o ((k, v) ∷ e ∷ es) ((e.0, v) ∷ es) (e ∷ insert_entry R es k v)) ≡ by_order o ((k, f v) ∷ changed (e ∷ es)) ((e.0, f v) ∷ changed es) ((e.0, f e.1) ∷ put R k (f v) (changed es))) [
        | Less ↦ refl
        | Equal ↦ refl
        | Greater ↦ ap (λ rest. (e.0, f e.1) ∷ rest) (inserted k v es)
      ]

  module _ (total : IsTotalOrder R) where
    abbrev others : K → K → Bool
    others k other = not (eq_by_cmp R k other)

    -- no key above the one that ties is taken out
    all_stay : (k x : K) → R k x ≡ Equal → (es : List (K × X)) → AllByRecursion (λ y. R x y ≡ Less) (keys_of es) → where_key R (others k) (changed es) ≡ changed es
    all_stay k x tied [] h = refl
    all_stay k x tied (e ∷ es) h =
        ap (λ o. cond (not (is_eq o)) ((e.0, f e.1) ∷ where_key R (others k) (changed es)) (where_key R (others k) (changed es))) (total.congr k x e.0 tied ∙ h.0)
        ∙ ap (λ rest. (e.0, f e.1) ∷ rest) (all_stay k x tied es h.1)

    tied : (o : Ordering) → is_eq o ≡ true → o ≡ Equal
    tied Less h = cc
    tied Equal h = refl
    tied Greater h = cc

    pub removed : (k : K) (es : List (K × X)) → IsStrictlySortedBy R (keys_of es) → changed (remove_entry (is_at (R k)) es) ≡ where_key R (others k) (changed es)
    unfolding IsStrictlySortedBy
    removed k [] h = refl
    removed k (e ∷ es) h =
        elim (is_eq (R k e.0)) as (λ b. is_eq (R k e.0) ≡ b → changed (cond b es (e ∷ remove_entry (is_at (R k)) es)) ≡ cond (not b) ((e.0, f e.1) ∷ where_key R (others k) (changed es)) (where_key R (others k) (changed es))) [
          | true ↦ λ t. sym (all_stay k e.0 (tied (R k e.0) t) es h.0)
          | false ↦ λ t. ap (λ rest. (e.0, f e.1) ∷ rest) (removed k es h.1)
        ] refl

module _ {K X : Type 0} (R : K → K → Ordering) where
  pub put_is : (k : K) (v : X) (es : List (K × X)) → insert_entry R es k v ≡ put R k v es
  put_is k v [] = refl
  put_is k v (e ∷ es) =
      elim (R k e.0) as (λ o. match_ordering o ((k, v) ∷ e ∷ es) ((e.0, v) ∷ es) (e ∷ insert_entry R es k v) ≡ by_order o ((k, v) ∷ e ∷ es) ((e.0, v) ∷ es) (e ∷ put R k v es)) [
        | Less ↦ refl
        | Equal ↦ refl
        | Greater ↦ ap (λ rest. e ∷ rest) (put_is k v es)
      ]

  pub found_is : (k : K) (es : List (K × X)) → lookup (is_at (R k)) es ≡ find R k es
  found_is k [] = refl
  found_is k (e ∷ es) = ap (cond (is_eq (R k e.0)) (Some e.1)) (found_is k es)
