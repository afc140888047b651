-- The heads of clients after one key of a map was given another value.
use Rattle.std.proofs.Common.{◌≡◌, ℕ, Bool, true, false, cond, ◌&&◌, List, [], ◌∷◌, ◌++◌, Some, refl, sym, ap, ◌∙◌, subst}
use Rattle.std.specs.Prelude.{if◌then◌else◌, bytes_eq, unwrap_or}
use Rattle.std.specs.Ordering.{nat_cmp}
use Rattle.std.specs.Cmp.Lexicographic.{slice_cmp, nat_list_eq_equiv}
use Rattle.std.specs.BTreeMap.{BTreeMap, get, is_at}
use Rattle.std.proofs.lemmas.Map.Text.{is_eq-slice_cmp}
use Rattle.std.proofs.lemmas.Slice.Eq.{bytes_eq-Decides}
use Rattle.ps_data.specs.declared.ids.Position.{Position}
use Rattle.ps_write_cp.specs.Kept.{Clients, heads_among, clients_among, heads_under}

pub same_texts : (a b : List ℕ) → bytes_eq a b ≡ true → a ≡ b
same_texts a b e = (bytes_eq-Decides a b).0 e

turned : (a b : List ℕ) → is_at (slice_cmp nat_cmp a) b ≡ bytes_eq b a
turned a b = is_eq-slice_cmp a b ∙ nat_list_eq_equiv.symm a b

-- a choice by the key, where its value is that of f
if_at : {V : Type 0} (f : List ℕ → V) (key other : List ℕ) (x y : V) → x ≡ f key → (if bytes_eq other key then x else y) ≡ (if bytes_eq other key then f other else y)
if_at {V} f key other x y e = go (bytes_eq other key) refl
  where
    go : (b : Bool) → bytes_eq other key ≡ b → (if b then x else y) ≡ (if b then f other else y)
    go true s = e ∙ ap f (sym (same_texts other key s))
    go false s = refl

if_same : {V : Type 0} (b : Bool) (x : V) → (if b then x else x) ≡ x
if_same true x = refl
if_same false x = refl

module _ {V : Type 0} (found new : BTreeMap (List ℕ) V) (key : List ℕ) (after none : V) where
  read_put : ((q : List ℕ) → get (slice_cmp nat_cmp) new q ≡ cond (is_at (slice_cmp nat_cmp key) q) (Some after) (get (slice_cmp nat_cmp) found q))
      → (q : List ℕ) → unwrap_or (get (slice_cmp nat_cmp) new q) none ≡ (if bytes_eq q key then after else unwrap_or (get (slice_cmp nat_cmp) found q) none)
  read_put gives q =
      ap (λ o. unwrap_or o none) (gives q)
      ∙ ap (λ b. unwrap_or (cond b (Some after) (get (slice_cmp nat_cmp) found q)) none) (turned key q)
      ∙ go (bytes_eq q key)
    where
      go : (b : Bool) → unwrap_or (cond b (Some after) (get (slice_cmp nat_cmp) found q)) none ≡ (if b then after else unwrap_or (get (slice_cmp nat_cmp) found q) none)
      go true = refl
      go false = refl

module _ (found new : BTreeMap (List ℕ) (List Position)) (client : List ℕ) (after : List Position)
    (gives : (q : List ℕ) → get (slice_cmp nat_cmp) new q ≡ cond (is_at (slice_cmp nat_cmp client) q) (Some after) (get (slice_cmp nat_cmp) found q)) where
  pub heads_more : (head : Position) → after ≡ heads_among found.entries client ++ head ∷ []
      → (other : List ℕ) → heads_among new.entries other ≡ (if bytes_eq other client then heads_among found.entries other ++ head ∷ [] else heads_among found.entries other)
  heads_more head e other =
      read_put found new client after [] gives other
      ∙ if_at (λ device. heads_among found.entries device ++ head ∷ []) client other after (heads_among found.entries other) e

  pub heads_kept : after ≡ heads_among found.entries client → (other : List ℕ) → heads_among new.entries other ≡ heads_among found.entries other
  heads_kept e other =
      read_put found new client after [] gives other
      ∙ if_at (heads_among found.entries) client other after (heads_among found.entries other) e
      ∙ if_same (bytes_eq other client) (heads_among found.entries other)

module _ (found new : BTreeMap (List ℕ) Clients) (user : List ℕ) (after : Clients)
    (gives : (q : List ℕ) → get (slice_cmp nat_cmp) new q ≡ cond (is_at (slice_cmp nat_cmp user) q) (Some after) (get (slice_cmp nat_cmp) found q)) where
  pub users_more : (client : List ℕ) (head : Position)
      → ((device : List ℕ) → heads_among after device ≡ (if bytes_eq device client then heads_under found.entries user device ++ head ∷ [] else heads_under found.entries user device))
      → (other device : List ℕ) → heads_under new.entries other device
      ≡ (if bytes_eq other user && bytes_eq device client then heads_under found.entries other device ++ head ∷ [] else heads_under found.entries other device)
  users_more client head inner other device = ap (λ clients. heads_among clients device) (read_put found new user after [] gives other) ∙ go (bytes_eq other user) refl
    where
      go : (b : Bool) → bytes_eq other user ≡ b → heads_among (if b then after else clients_among found.entries other) device
          ≡ (if b && bytes_eq device client then heads_under found.entries other device ++ head ∷ [] else heads_under found.entries other device)
      go true s =
          subst
          (λ u. heads_among after device ≡ (if bytes_eq device client then heads_under found.entries u device ++ head ∷ [] else heads_under found.entries u device))
          (sym (same_texts other user s)) (inner device)
      go false s = refl

  pub users_kept : ((device : List ℕ) → heads_among after device ≡ heads_under found.entries user device)
      → (other device : List ℕ) → heads_under new.entries other device ≡ heads_under found.entries other device
  users_kept inner other device = ap (λ clients. heads_among clients device) (read_put found new user after [] gives other) ∙ go (bytes_eq other user) refl
    where
      go : (b : Bool) → bytes_eq other user ≡ b → heads_among (if b then after else clients_among found.entries other) device ≡ heads_under found.entries other device
      go true s = subst (λ u. heads_among after device ≡ heads_under found.entries u device) (sym (same_texts other user s)) (inner device)
      go false s = refl
