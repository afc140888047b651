-- Some vector is allowed exactly where one that the matches solve to is allowed and known.
use Rattle.std.proofs.Common.{◌≡◌, ℕ, Bool, true, false, not, cond, List, [], ◌∷◌, ◌++◌, length, Option, Some, Ordering, Less, Equal, Greater, map, flat_map, refl, sym, ap, ◌∙◌, subst, append_assoc, append-nil, bytes_eq, arith}
use Rattle.std.specs.Prelude.{◌||◌, ◌&&◌, ◌==◌, unwrap_or, is_some, IfSome}
use Rattle.std.specs.List.{list_any, list_all}
use Rattle.std.specs.Cmp.Lexicographic.{slice_cmp, texts_ties, nat_list_eq_equiv}
use Rattle.std.specs.Ordering.{nat_cmp, is_eq, ordering_then}
use Rattle.std.proofs.lemmas.Map.Lookups.{exact_bytes}
use Rattle.std.proofs.lemmas.Bool.{eqb-true}
use Rattle.ps_data.specs.declared.values.Value.{Value}
use Rattle.ps_data.specs.declared.values.Truth.{Truth}
use Rattle.ps_data.specs.declared.values.Truth.TheVariants.{True, False, Unknown}
use Rattle.ps_data.specs.Values.{equal_sql, compare_values}
use Rattle.ps_values.specs.Laws.{IsEqualWherePresent, TiesTheSame}
use Rattle.ps_queries.specs.Meaning.{is_true}
use Rattle.ps_definitions.specs.Names.{is_in, has_repeated}
use Rattle.ps_definitions.specs.Vectors.{vector_at}
use Rattle.ps_grant.specs.declared.solving.Allowed.{Allowed}
use Rattle.ps_grant.specs.Solving.{is_same, is_equal_to, allows_vector, all_allow, values_for, extended, solved, AreAsLong, AreMatched, AreSolved}
use Rattle.ps_grant.proofs.GainLaws.{any_append}

-- ---- tests

pub same_bools : (a b : Bool) → (a ≡ true → b ≡ true) → (b ≡ true → a ≡ true) → a ≡ b
same_bools true b f g = sym (f refl)
same_bools false true f g = g refl
same_bools false false f g = refl

left_true : (a b : Bool) → (a && b) ≡ true → a ≡ true
left_true true b h = refl
left_true false b h = cc

right_true : (a b : Bool) → (a && b) ≡ true → b ≡ true
right_true true b h = h
right_true false b h = absurd (cc)

or_right : (a b : Bool) → b ≡ true → (a || b) ≡ true
or_right true b h = refl
or_right false b h = h

or_false : (a b : Bool) → (a || b) ≡ false → a ≡ false
or_false true b h = cc
or_false false b h = refl

or_false_right : (a b : Bool) → (a || b) ≡ false → b ≡ false
or_false_right true b h = absurd (cc)
or_false_right false b h = h

-- ---- items of lists

module _ {A : Type 0} where
  -- whatever test the item passes, some item of the list passes
  abbrev pub IsIn : A → List A → Type 0
  IsIn x xs = (test : A → Bool) → test x ≡ true → list_any test xs ≡ true

  pub record Passing (test : A → Bool) (xs : List A) : Type 0 where
    pub item : A
    pub passes : test item ≡ true
    pub among : IsIn item xs

  pub passing : (test : A → Bool) (xs : List A) → list_any test xs ≡ true → Passing test xs
  passing test [] h = absurd (cc)
  passing test (x ∷ xs) h =
      elim (test x) as (λ b. test x ≡ b → (b || list_any test xs) ≡ true → Passing test (x ∷ xs)) [
        | true ↦ λ e _. record { item = x; passes = e; among = λ t p. ap (λ b. b || list_any t xs) p }
        | false ↦ λ e k. let rest : Passing test xs = passing test xs k in
            record { item = rest.item; passes = rest.passes; among = λ t p. or_right (t x) (list_any t xs) (rest.among t p) }
      ] refl h

  any_not : (test : A → Bool) (xs : List A) → list_all test xs ≡ true → list_any (λ x. not (test x)) xs ≡ false
  any_not test [] h = refl
  any_not test (x ∷ xs) h = ap (λ b. not b || list_any (λ y. not (test y)) xs) (left_true (test x) (list_all test xs) h) ∙ any_not test xs (right_true (test x) (list_all test xs) h)

  -- what all items of a list pass, an item of it passes
  all_in : (test : A → Bool) (x : A) (xs : List A) → list_all test xs ≡ true → IsIn x xs → test x ≡ true
  all_in test x xs h among = by (test x) refl where
    by : (b : Bool) → test x ≡ b → test x ≡ true
    by true e = e
    by false e = absurd (let found = among (λ y. not (test y)) (ap not e) in let none = any_not test xs h in cc)

any_map : {A B : Type 0} (test : B → Bool) (f : A → B) (xs : List A) → list_any test (map f xs) ≡ list_any (λ x. test (f x)) xs
any_map test f [] = refl
any_map test f (x ∷ xs) = ap (λ b. test (f x) || b) (any_map test f xs)

any_flat : {A B : Type 0} (test : B → Bool) (f : A → List B) (xs : List A) → list_any test (flat_map f xs) ≡ list_any (λ x. list_any test (f x)) xs
any_flat test f [] = refl
any_flat test f (x ∷ xs) = any_append test (f x) (flat_map f xs) ∙ ap (λ b. list_any test (f x) || b) (any_flat test f xs)

-- ---- equal values

pub true_is : (t : Truth) → is_true t ≡ true → t ≡ True
true_is True h = refl
true_is False h = cc
true_is Unknown h = cc

equal_is : IsEqualWherePresent → (value allowed : Value) → is_equal_to value allowed ≡ true → value ≡ allowed
equal_is law value allowed h = ((law value allowed).0 (true_is (equal_sql value allowed) h)).2

-- a value that equals one of a list is in it
one_of : IsEqualWherePresent → (value : Value) (allowed : List Value) → list_any (is_equal_to value) allowed ≡ true → IsIn value allowed
one_of law value allowed h =
    let found : Passing (is_equal_to value) allowed = passing (is_equal_to value) allowed h in
    subst (λ (v : Value). IsIn v allowed) (sym (equal_is law value found.item found.passes)) found.among

-- ---- the same vectors

then_first : (o p : Ordering) → is_eq (ordering_then o p) ≡ true → o ≡ Equal
then_first Less p h = cc
then_first Equal p h = refl
then_first Greater p h = cc

then_second : (o p : Ordering) → is_eq (ordering_then o p) ≡ true → is_eq p ≡ true
then_second Less p h = absurd (cc)
then_second Equal p h = h
then_second Greater p h = absurd (cc)

pub same_is : TiesTheSame → (a b : List Value) → is_same a b ≡ true → a ≡ b
same_is ties [] [] h = refl
same_is ties [] (y ∷ ys) h = cc
same_is ties (x ∷ xs) [] h = cc
same_is ties (x ∷ xs) (y ∷ ys) h =
    let head : x ≡ y = (ties x y).0 (then_first (compare_values x y) (slice_cmp compare_values xs ys) h) in
    let tail : xs ≡ ys = same_is ties xs ys (then_second (compare_values x y) (slice_cmp compare_values xs ys) h) in
    λ i. head i ∷ tail i

same_itself : TiesTheSame → (a : List Value) → is_same a a ≡ true
same_itself ties [] = refl
same_itself ties (x ∷ xs) = ap (λ o. is_eq (ordering_then o (slice_cmp compare_values xs xs))) ((ties x x).1 refl) ∙ same_itself ties xs

-- ---- names

tied : (o : Ordering) → is_eq o ≡ true → o ≡ Equal
tied Less h = cc
tied Equal h = refl
tied Greater h = cc

same_bytes : (a b : List ℕ) → bytes_eq a b ≡ true → a ≡ b
same_bytes a b e = exact_bytes a b (tied (slice_cmp nat_cmp a b) (sym (texts_ties a b) ∙ e))

-- ---- a vector that fits

-- in each place a value that the first match of the parameter allows
abbrev Fits : List Allowed → List (List ℕ) → List Value → Type 0
Fits all [] vector = vector ≡ []
Fits all (name ∷ names) [] = ⊥
Fits all (name ∷ names) (value ∷ values) = (list_any (is_equal_to value) (unwrap_or (values_for name all) []) ≡ true) × Fits all names values

module _ (law : IsEqualWherePresent) (all : List Allowed) where
  behind : (fronts : List (List Value)) (front values : List Value) (value : Value) → IsIn front fronts → IsIn value values → IsIn (front ++ value ∷ []) (extended fronts values)
  behind fronts front values value among one test passes =
      any_flat test (λ (f : List Value). map (λ (v : Value). f ++ v ∷ []) values) fronts
      ∙ among (λ (f : List Value). list_any test (map (λ (v : Value). f ++ v ∷ []) values))
      (any_map test (λ (v : Value). front ++ v ∷ []) values ∙ one (λ (v : Value). test (front ++ v ∷ [])) passes)

  -- a vector that fits behind a front is among those that are solved
  reached : (fronts : List (List Value)) (names : List (List ℕ)) (front vector : List Value) → IsIn front fronts → Fits all names vector → IsIn (front ++ vector) (solved all fronts names)
  reached fronts [] front vector among fits = subst (λ (v : List Value). IsIn v fronts) (sym (ap (λ (v : List Value). front ++ v) fits ∙ append-nil front)) among
  reached fronts (name ∷ names) front [] among fits = absurd fits
  reached fronts (name ∷ names) front (value ∷ values) among fits =
      let allowed : List Value = unwrap_or (values_for name all) [] in
      subst (λ (v : List Value). IsIn v (solved all (extended fronts allowed) names)) (append_assoc front (value ∷ []) values)
      (reached (extended fronts allowed) names (front ++ value ∷ []) values (behind fronts front allowed value among (one_of law value allowed fits.0)) fits.1)

-- the first match of a parameter allows its value in a vector that all matches allow
first_allows : (names : List (List ℕ)) (vector : List Value) (all : List Allowed) (name : List ℕ) → all_allow names all vector ≡ true → is_some (values_for name all) ≡ true
    → list_any (is_equal_to (vector_at names vector name)) (unwrap_or (values_for name all) []) ≡ true
first_allows names vector [] name h m = absurd (cc)
first_allows names vector (a ∷ all) name h m =
    elim (bytes_eq a.name name) as (λ b. bytes_eq a.name name ≡ b → is_some (cond b (Some a.values) (values_for name all)) ≡ true
    → list_any (is_equal_to (vector_at names vector name)) (unwrap_or (cond b (Some a.values) (values_for name all)) []) ≡ true) [
      | true ↦ λ e _. subst (λ (n : List ℕ). list_any (is_equal_to (vector_at names vector n)) a.values ≡ true) (same_bytes a.name name e) (left_true (allows_vector names vector a) (all_allow names all vector) h)
      | false ↦ λ e k. first_allows names vector all name (right_true (allows_vector names vector a) (all_allow names all vector) h) k
    ] refl m

-- what holds of the value of each parameter holds in each place
placed : (all : List Allowed) (names : List (List ℕ)) (vector : List Value) → has_repeated names ≡ false → length vector ≡ length names
    → ((name : List ℕ) → is_in name names ≡ true → list_any (is_equal_to (vector_at names vector name)) (unwrap_or (values_for name all) []) ≡ true)
    → Fits all names vector
placed all [] [] differ long h = refl
placed all [] (value ∷ values) differ long h = absurd (omega arith)
placed all (name ∷ names) [] differ long h = absurd (omega arith)
placed all (name ∷ names) (value ∷ values) differ long h = (
  ap (λ b. list_any (is_equal_to (cond b value (vector_at names values name))) (unwrap_or (values_for name all) [])) (sym (nat_list_eq_equiv.refl name))
      ∙ h name (ap (λ b. b || is_in name names) (nat_list_eq_equiv.refl name)),
  placed all names values (or_false_right (is_in name names) (has_repeated names) differ) (omega arith)
      (λ n among. ap (λ b. list_any (is_equal_to (cond b value (vector_at names values n))) (unwrap_or (values_for n all) [])) (sym (another n among (bytes_eq name n) refl))
      ∙ h n (or_right (bytes_eq name n) (is_in n names) among)),
)
  where
    another : (n : List ℕ) → is_in n names ≡ true → (b : Bool) → bytes_eq name n ≡ b → bytes_eq name n ≡ false
    another n among true e = absurd (let here = or_false (is_in name names) (has_repeated names) differ in let same : name ≡ n = same_bytes name n e in
        let there : is_in name names ≡ true = ap (λ (m : List ℕ). is_in m names) same ∙ among in cc)
    another n among false e = e

-- each parameter of a list has a match
matched_in : (all : List Allowed) (names : List (List ℕ)) (name : List ℕ) → list_all (λ n. is_some (values_for n all)) names ≡ true → is_in name names ≡ true → is_some (values_for name all) ≡ true
matched_in all [] name h among = absurd (cc)
matched_in all (n ∷ names) name h among =
    elim (bytes_eq n name) as (λ b. bytes_eq n name ≡ b → (b || is_in name names) ≡ true → is_some (values_for name all) ≡ true) [
      | true ↦ λ e _. subst (λ (m : List ℕ). is_some (values_for m all) ≡ true) (same_bytes n name e) (left_true (is_some (values_for n all)) (list_all (λ m. is_some (values_for m all)) names) h)
      | false ↦ λ e k. matched_in all names name (right_true (is_some (values_for n all)) (list_all (λ m. is_some (values_for m all)) names) h) k
    ] refl among

module _ (law : IsEqualWherePresent) (ties : TiesTheSame) (names : List (List ℕ)) (all : List Allowed) (vectors : List (List Value)) where
  abbrev known : List Value → Bool
  known v = list_any (is_same v) vectors && all_allow names all v

  known_allowed : (listed : List (List Value)) → list_any known listed ≡ true → list_any (all_allow names all) vectors ≡ true
  known_allowed listed h =
      let w : Passing known listed = passing known listed h in
      let v : Passing (is_same w.item) vectors = passing (is_same w.item) vectors (left_true (list_any (is_same w.item) vectors) (all_allow names all w.item) w.passes) in
      let same : w.item ≡ v.item = same_is ties w.item v.item v.passes in
      v.among (all_allow names all) (ap (all_allow names all) (sym same) ∙ right_true (list_any (is_same w.item) vectors) (all_allow names all w.item) w.passes)

  allowed_known : has_repeated names ≡ false → AreAsLong names vectors → AreMatched all names → list_any (all_allow names all) vectors ≡ true → list_any known (solved all ([] ∷ []) names) ≡ true
  allowed_known differ long matched h =
      let v : Passing (all_allow names all) vectors = passing (all_allow names all) vectors h in
      let size : length v.item ≡ length names = eqb-true (length v.item) (length names) (all_in (λ (x : List Value). length x == length names) v.item vectors long v.among) in
      let fits : Fits all names v.item = placed all names v.item differ size (λ name among. first_allows names v.item all name v.passes (matched_in all names name matched among)) in
      let start : IsIn [] ([] ∷ []) = λ test passes. ap (λ b. b || false) passes in
      reached law all ([] ∷ []) names [] v.item start fits known
      (ap (λ b. b && all_allow names all v.item) (v.among (is_same v.item) (same_itself ties v.item)) ∙ v.passes)

  -- of the vectors that are solved some is known and allowed exactly where some vector is allowed
  pub known_same : has_repeated names ≡ false → AreAsLong names vectors → AreMatched all names → list_any known (solved all ([] ∷ []) names) ≡ list_any (all_allow names all) vectors
  known_same differ long matched =
      same_bools (list_any known (solved all ([] ∷ []) names)) (list_any (all_allow names all) vectors) (known_allowed (solved all ([] ∷ []) names)) (allowed_known differ long matched)

-- what is solved, where something was found
pub solved_some : (all : List Allowed) (names : List (List ℕ)) (found : Option (List (List Value))) (listed : List (List Value)) → found ≡ Some listed → IfSome found (AreSolved all names) → AreSolved all names listed
solved_some all names found listed is h = subst (λ (o : Option (List (List Value))). IfSome o (AreSolved all names)) is h
