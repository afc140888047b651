-- A table that shows the rows of a list, whose keys are distinct, shows under each key what the list has there.
use Rattle.std.proofs.Common.{◌≡◌, Bool, true, false, cond, List, [], ◌∷◌, map, filter, length, fold, Option, Some, None, option_map, option_to_list, IsPermutation, refl, sym, ap, subst, ◌∙◌, arith}
use Rattle.std.specs.List.{AllByRecursion, IsDistinct}
use Rattle.std.proofs.lemmas.Bool.{false_from_ne_true}
use Rattle.std.proofs.lemmas.List.Sorted.{IsPermutation-sym, length_permutation}
use Rattle.std.proofs.lemmas.List.Elements.{filter_agree}
use Rattle.sqlite_value.specs.Order.{Row}
use Rattle.sqlite_trees.proofs.ListLemmas.{filter-map, IsPermutation-filter, all_weaker, all-permutation, all_from_map}
use Rattle.ps_client_sqlite.specs.Stored.{Shows}
use Rattle.ps_client_sqlite.specs.Stating.{found}

single : (rows : List Row) (row : Row) → length rows ≡ 1 → AllByRecursion (λ r. r ≡ row) rows → rows ≡ row ∷ []
single [] row one all = absurd (omega arith)
single (r ∷ []) row one all = ap (λ x. x ∷ []) all.0
single (r ∷ s ∷ rows) row one all = absurd (omega arith)

none : (rows : List Row) → length rows ≡ 0 → rows ≡ []
none [] empty = refl
none (r ∷ rows) empty = absurd (omega arith)

-- what has the rows of a list of one row at most is that list
pub short : (rows others : List Row) (o : Option Row) → IsPermutation rows others → others ≡ option_to_list o → rows ≡ option_to_list o
short rows others None same is = none rows (sym (length_permutation rows others same) ∙ ap length is)
short rows others (Some row) same is =
    let back : IsPermutation (row ∷ []) rows = subst (λ (l : List Row). IsPermutation l rows) is (IsPermutation-sym rows others same) in
    single rows row (length_permutation (row ∷ []) rows back) (all-permutation (λ r. r ≡ row) (row ∷ []) rows back (refl, tt))

-- when two keys are the same, and the test for a key on a line
pub record AreLines {K V : Type 0} (same : K → K → Bool) (test : K → Row → Bool) (columns : K → V → Row) : Type 0 where
  pub itself : (a : K) → same a a ≡ true
  pub equal : (a b : K) → same a b ≡ true → a ≡ b
  pub tests : (own key : K) (value : V) → test key (columns own value) ≡ same own key

module _ {X K V : Type 0} (same : K → K → Bool) (test : K → Row → Bool) (columns : K → V → Row) (lines : AreLines same test columns) (key : X → K) (value : X → V) where
  abbrev row_of : X → Row
  row_of x = columns (key x) (value x)

  abbrev step : K → Option V → X → Option V
  step at seen one = cond (same (key one) at) (Some (value one)) seen

  none_shown : (at : K) (xs : List X) → AllByRecursion (λ x. same (key x) at ≡ false) xs → filter (test at) (map row_of xs) ≡ []
  none_shown at [] all = refl
  none_shown at (x ∷ xs) all = ap (λ b. cond b (row_of x ∷ filter (test at) (map row_of xs)) (filter (test at) (map row_of xs))) (lines.tests (key x) at (value x) ∙ all.0) ∙ none_shown at xs all.1

  none_found : (at : K) (seen : Option V) (xs : List X) → AllByRecursion (λ x. same (key x) at ≡ false) xs → fold (step at) seen xs ≡ seen
  none_found at seen [] all = refl
  none_found at seen (x ∷ xs) all = ap (λ b. fold (step at) (cond b (Some (value x)) seen) xs) all.0 ∙ none_found at seen xs all.1

  -- no key of the others is the one of the first
  other_key : (at : K) (x y : X) → key x ≡ at → same (key x) (key y) ≡ false → same (key y) at ≡ false
  other_key at x y here apart = false_from_ne_true _ (λ again.
      let e : key y ≡ key x = lines.equal (key y) at again ∙ sym here in
      let yes : same (key x) (key y) ≡ true = subst (λ k. same (key x) k ≡ true) (sym e) (lines.itself (key x)) in
      cc)

  first : (at : K) (x : X) (xs : List X) (b : Bool) → same (key x) at ≡ b → AllByRecursion (λ y. same (key x) (key y) ≡ false) xs
      → filter (test at) (map row_of xs) ≡ option_to_list (option_map (columns at) (fold (step at) None xs))
      → cond (test at (row_of x)) (row_of x ∷ filter (test at) (map row_of xs)) (filter (test at) (map row_of xs)) ≡ option_to_list (option_map (columns at) (fold (step at) (cond b (Some (value x)) None) xs))
  first at x xs true e apart later =
      let here : key x ≡ at = lines.equal (key x) at e in
      let others = all_weaker (λ y. same (key x) (key y) ≡ false) (λ y. same (key y) at ≡ false) (λ y. other_key at x y here) xs apart in
      ap (λ b. cond b (row_of x ∷ filter (test at) (map row_of xs)) (filter (test at) (map row_of xs))) (lines.tests (key x) at (value x) ∙ e)
      ∙ ap (λ (rows : List Row). row_of x ∷ rows) (none_shown at xs others) ∙ ap (λ k. columns k (value x) ∷ []) here
      ∙ sym (ap (λ o. option_to_list (option_map (columns at) o)) (none_found at (Some (value x)) xs others))
  first at x xs false e apart later = ap (λ b. cond b (row_of x ∷ filter (test at) (map row_of xs)) (filter (test at) (map row_of xs))) (lines.tests (key x) at (value x) ∙ e) ∙ later

  one_shown : (at : K) (xs : List X) → IsDistinct (λ a b. same (key a) (key b)) xs → filter (test at) (map row_of xs) ≡ option_to_list (option_map (columns at) (found same key value xs at))
  unfolding IsDistinct
  one_shown at [] distinct = refl
  one_shown at (x ∷ xs) distinct = first at x xs (same (key x) at) refl distinct.0 (one_shown at xs distinct.1)

  each_keyed : (xs : List X) → AllByRecursion (λ r. (k : K) × (test k r ≡ true)) (map row_of xs)
  each_keyed [] = tt
  each_keyed (x ∷ xs) = ((key x, lines.tests (key x) (key x) (value x) ∙ lines.itself (key x)), each_keyed xs)

  pub shows_listed : (has : K → Row → Bool) (line : Row → Row) (rows : List Row) (xs : List X) → ((k : K) (r : Row) → has k r ≡ test k (line r)) → IsPermutation (map line rows) (map row_of xs)
      → IsDistinct (λ a b. same (key a) (key b)) xs → Shows has line columns (found same key value xs) rows
  shows_listed has line rows xs alike listed distinct = record {
    each = λ at. ap (map line) (filter_agree (has at) (λ r. test at (line r)) (alike at) rows) ∙ sym (filter-map (test at) line rows)
        ∙ short (filter (test at) (map line rows)) (filter (test at) (map row_of xs)) (option_map (columns at) (found same key value xs at)) (IsPermutation-filter (test at) (map line rows) (map row_of xs) listed) (one_shown at xs distinct);
    only = all_weaker (λ r. (k : K) × (test k (line r) ≡ true)) (λ r. (k : K) × (has k r ≡ true)) (λ r it. (it.0, alike it.0 r ∙ it.1)) rows
        (all_from_map (λ r. (k : K) × (test k r ≡ true)) line rows (all-permutation (λ r. (k : K) × (test k r ≡ true)) (map row_of xs) (map line rows) (IsPermutation-sym (map line rows) (map row_of xs) listed) (each_keyed xs)));
  }
