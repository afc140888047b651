-- Lists of names, one name more.
use Rattle.std.proofs.Common.{◌≡◌, ℕ, List, [], ◌∷◌, ◌++◌, Bool, true, false, cond, bytes_eq, nat_cmp, ◌+◌, ◌<◌, length, take, drop, get_or, add-one, refl, sym, ap, ◌∙◌, arith}
use Rattle.std.specs.Prelude.{◌||◌}
use Rattle.std.specs.Cmp.Lexicographic.{slice_cmp, nat_list_eq_equiv}
use Rattle.std.specs.BTreeSet.{BTreeSet, contains, Updates}
use Rattle.std.proofs.lemmas.Map.Text.{is_eq-slice_cmp}
use Rattle.std.specs.List.{list_all}
use Rattle.std.proofs.lemmas.List.Folds.{list_all-map, list_any-append}
use Rattle.std.proofs.lemmas.List.{take-append-drop}
use Rattle.std.proofs.Math.Seq.{take-suc}
use Rattle.ps_queries.specs.declared.queries.Output.{Output}
use Rattle.ps_definitions.specs.Names.{is_in, are_in, has_repeated, output_names}
use Rattle.std.proofs.lemmas.List.{map-append}

pub in_more : (q : List ℕ) (names : List (List ℕ)) (name : List ℕ) → is_in q (names ++ name ∷ []) ≡ cond (bytes_eq name q) true (is_in q names)
in_more q [] name = grind arith
in_more q (n ∷ names) name = grind (arith, in_more q names name)

pub still_in : (old new : BTreeSet (List ℕ)) (key : List ℕ) (names more : List (List ℕ)) (name : List ℕ) → Updates (slice_cmp nat_cmp) old new key true
    → ((q : List ℕ) → contains (slice_cmp nat_cmp) old q ≡ is_in q names) → key ≡ name → more ≡ names ++ name ∷ []
    → (q : List ℕ) → contains (slice_cmp nat_cmp) new q ≡ is_in q more
still_in old new key names more name updates held same is q =
    let test = is_eq-slice_cmp key q ∙ ap (λ (n : List ℕ). bytes_eq n q) same in
    updates.0 q ∙ ap (λ b. cond b true (contains (slice_cmp nat_cmp) old q)) test ∙ ap (λ b. cond (bytes_eq name q) true b) (held q)
    ∙ sym (in_more q names name) ∙ ap (λ (ns : List (List ℕ)). is_in q ns) (sym is)

-- bytes are equal either way round
pub bytes_eq-turned : (a b : List ℕ) → bytes_eq a b ≡ bytes_eq b a
bytes_eq-turned a b = nat_list_eq_equiv.symm a b

-- a name that is not among those before it adds none that stands twice
pub repeated_more : (names : List (List ℕ)) (name : List ℕ) → has_repeated (names ++ name ∷ []) ≡ cond (is_in name names) true (has_repeated names)
repeated_more [] name = refl
repeated_more (n ∷ names) name = ap (λ b. b || has_repeated (names ++ name ∷ [])) (in_more n names name) ∙ ap (λ b. cond (bytes_eq name n) true (is_in n names) || b) (repeated_more names name)
    ∙ ap (λ b. cond b true (is_in n names) || cond (is_in name names) true (has_repeated names)) (bytes_eq-turned name n)
    ∙ regrouped (bytes_eq n name) (is_in n names) (is_in name names) (has_repeated names)
  where
    regrouped : (a b c d : Bool) → (cond a true b || cond c true d) ≡ cond (a || c) true (b || d)
    regrouped true b c d = refl
    regrouped false true true d = refl
    regrouped false true false d = refl
    regrouped false false c d = refl

-- the names of outputs, one output more
pub names_front : (xs ys : List (List ℕ)) → has_repeated xs ≡ true → has_repeated (xs ++ ys) ≡ true
names_front [] ys h = absurd (cc)
names_front (x ∷ xs) ys h = elim (is_in x xs) as (λ b. is_in x xs ≡ b → (b || has_repeated xs) ≡ true → (is_in x (xs ++ ys) || has_repeated (xs ++ ys)) ≡ true) [
  | true ↦ λ e _. ap (λ b. b || has_repeated (xs ++ ys)) (in_front x xs ys e)
  | false ↦ λ e g. or_right (is_in x (xs ++ ys)) (has_repeated (xs ++ ys)) (names_front xs ys g)
] refl h
  where
    or_right : (a b : Bool) → b ≡ true → (a || b) ≡ true
    or_right true b e = refl
    or_right false b e = e

    in_front : (q : List ℕ) (ns ms : List (List ℕ)) → is_in q ns ≡ true → is_in q (ns ++ ms) ≡ true
    in_front q ns ms e = list_any-append (λ other. bytes_eq other q) ns ms ∙ ap (λ b. b || is_in q ms) e

-- a name that stands again makes the names repeat
pub repeated_found : (outputs : List Output) (i : ℕ) (o : Output) → i < length outputs → get_or outputs i o ≡ o → is_in o.name (output_names (take i outputs)) ≡ true → has_repeated (output_names outputs) ≡ true
repeated_found outputs i o within is found =
    let front : take (i + 1) outputs ≡ take i outputs ++ o ∷ [] = rw add-one (take-suc outputs i o within ∙ ap (λ (x : Output). take i outputs ++ x ∷ []) is) in
    let names : output_names (take (i + 1) outputs) ≡ output_names (take i outputs) ++ o.name ∷ [] = ap output_names front ∙ map-append (λ (x : Output). x.name) (take i outputs) (o ∷ []) in
    let again : has_repeated (output_names (take (i + 1) outputs)) ≡ true = ap has_repeated names ∙ repeated_more (output_names (take i outputs)) o.name
    ∙ ap (λ b. cond b true (has_repeated (output_names (take i outputs)))) found in
    let whole : output_names outputs ≡ output_names (take (i + 1) outputs) ++ output_names (drop (i + 1) outputs) =
    ap output_names (sym (take-append-drop (i + 1) outputs)) ∙ map-append (λ (x : Output). x.name) (take (i + 1) outputs) (drop (i + 1) outputs) in
    ap has_repeated whole ∙ names_front (output_names (take (i + 1) outputs)) (output_names (drop (i + 1) outputs)) again

pub among_outputs : (outputs : List Output) (names : List (List ℕ)) → list_all (λ (o : Output). is_in o.name names) outputs ≡ are_in (output_names outputs) names
among_outputs outputs names = sym (list_all-map (λ name. is_in name names) (λ (o : Output). o.name) outputs)
