-- Tables, one query more.
use Rattle.std.proofs.Common.{◌≡◌, ℕ, zero, suc, ◌+◌, ◌<◌, Bool, true, false, cond, List, [], ◌∷◌, ◌++◌, length, get_or, take, None, Some, refl, sym, ap, ◌∙◌, subst, arith, append-nil, append_assoc}
use Rattle.std.specs.Prelude.{◌||◌, if◌then◌else◌, bytes_eq, slice_get}
use Rattle.std.specs.List.{list_any, AllByRecursion}
use Rattle.std.specs.Ordering.{nat_cmp}
use Rattle.std.specs.Cmp.Lexicographic.{slice_cmp}
use Rattle.std.specs.BTreeMap.{BTreeMap, get, is_at}
use Rattle.std.specs.BTreeSet.{BTreeSet, contains, Updates}
use Rattle.std.proofs.lemmas.Map.Text.{is_eq-slice_cmp}
use Rattle.std.proofs.lemmas.Slice.Eq.{bytes_eq-Decides}
use Rattle.ps_definitions.specs.declared.queries.Planned.{Planned}
use Rattle.ps_definitions.specs.declared.definitions.Definition.{Definition}
use Rattle.ps_definitions.specs.declared.tables.QueryPlace.{QueryPlace}
use Rattle.ps_definitions.specs.Tables.{places_among, places_from, places_of, HasQuery, is_table, places_or_none, places_at}

-- ---- one place more in the map

module _ (found new : BTreeMap (List ℕ) (List QueryPlace)) (table key : List ℕ) (place : QueryPlace) (before after : List QueryPlace) where
  pub place_put : key ≡ table → after ≡ before ++ place ∷ [] → places_at found table ≡ before
      → ((q : List ℕ) → get (slice_cmp nat_cmp) new q ≡ cond (is_at (slice_cmp nat_cmp key) q) (Some after) (get (slice_cmp nat_cmp) found q))
      → (other : List ℕ) → places_at new other ≡ (if bytes_eq table other then places_at found other ++ place ∷ [] else places_at found other)
  place_put same grown was gets other =
      let test = is_eq-slice_cmp key other ∙ ap (λ (n : List ℕ). bytes_eq n other) same in
      ap places_or_none (gets other ∙ ap (λ b. cond b (Some after) (get (slice_cmp nat_cmp) found other)) test) ∙ go (bytes_eq table other) refl
    where
      go : (b : Bool) → bytes_eq table other ≡ b → places_or_none (cond b (Some after) (get (slice_cmp nat_cmp) found other)) ≡ (if b then places_at found other ++ place ∷ [] else places_at found other)
      go true e = grown ∙ ap (λ (ps : List QueryPlace). ps ++ place ∷ []) (sym was ∙ ap (places_at found) ((bytes_eq-Decides table other).0 e))
      go false e = refl

-- ---- one query more in the list

among_more : (table : List ℕ) (d first k : ℕ) (qs : List Planned) (q : Planned) → k < length qs → q ≡ get_or qs k q
    → places_among table d first (take (suc k) qs)
    ≡ places_among table d first (take k qs) ++ (if bytes_eq q.query.table table then (record { definition = d; query = first + k }) ∷ [] else [])
among_more table d first k [] q lt is = absurd (omega arith)
among_more table d first zero (x ∷ qs) q lt is =
    let z : first ≡ first + 0 = omega arith in
    ap (λ (y : Planned). if bytes_eq y.query.table table then (record { definition = d; query = first }) ∷ [] else []) (sym is)
    ∙ ap (λ f. if bytes_eq q.query.table table then (record { definition = d; query = f }) ∷ [] else []) z
among_more table d first (suc k) (x ∷ qs) q lt is =
    let same : suc first + k ≡ first + suc k = omega arith in
    ap (λ (ps : List QueryPlace). if bytes_eq x.query.table table then (record { definition = d; query = first }) ∷ ps else ps)
    (among_more table d (suc first) k qs q (omega arith) is
    ∙ ap (λ j. places_among table d (suc first) (take k qs) ++ (if bytes_eq q.query.table table then (record { definition = d; query = j }) ∷ [] else [])) same)
    ∙ go (bytes_eq x.query.table table)
  where
    more : List QueryPlace
    more = if bytes_eq q.query.table table then (record { definition = d; query = first + suc k }) ∷ [] else []

    front : List QueryPlace
    front = places_among table d (suc first) (take k qs)

    go : (b : Bool) → (if b then (record { definition = d; query = first }) ∷ (front ++ more) else (front ++ more))
        ≡ (if b then (record { definition = d; query = first }) ∷ front else front) ++ more
    go true = refl
    go false = refl

-- the places so far, behind those that were there
pub queries_more : (table : List ℕ) (d k : ℕ) (qs : List Planned) (q : Planned) (old mid new : List QueryPlace) → k < length qs → q ≡ get_or qs k q
    → mid ≡ old ++ places_among table d 0 (take k qs)
    → new ≡ (if bytes_eq q.query.table table then mid ++ (record { definition = d; query = k }) ∷ [] else mid)
    → new ≡ old ++ places_among table d 0 (take (suc k) qs)
queries_more table d k qs q old mid new lt is before after =
    let z : 0 + k ≡ k = omega arith in
    after ∙ by (bytes_eq q.query.table table)
    ∙ ap (λ (m : List QueryPlace). m ++ more) before
    ∙ append_assoc old (places_among table d 0 (take k qs)) more
    ∙ ap (λ (m : List QueryPlace). old ++ m)
    (ap (λ j. places_among table d 0 (take k qs) ++ (if bytes_eq q.query.table table then (record { definition = d; query = j }) ∷ [] else [])) (sym z)
    ∙ sym (among_more table d 0 k qs q lt is))
  where
    more : List QueryPlace
    more = if bytes_eq q.query.table table then (record { definition = d; query = k }) ∷ [] else []

    by : (b : Bool) → (if b then mid ++ (record { definition = d; query = k }) ∷ [] else mid) ≡ mid ++ (if b then (record { definition = d; query = k }) ∷ [] else [])
    by true = refl
    by false = sym (append-nil mid)

-- ---- one definition more

from_more : (table : List ℕ) (first k : ℕ) (ds : List Definition) (d : Definition) → k < length ds → d ≡ get_or ds k d
    → places_from table first (take (suc k) ds) ≡ places_from table first (take k ds) ++ places_among table (first + k) 0 d.queries
from_more table first k [] d lt is = absurd (omega arith)
from_more table first zero (x ∷ ds) d lt is =
    let z : first ≡ first + 0 = omega arith in
    append-nil (places_among table first 0 x.queries) ∙ ap (λ (y : Definition). places_among table first 0 y.queries) (sym is) ∙ ap (λ f. places_among table f 0 d.queries) z
from_more table first (suc k) (x ∷ ds) d lt is =
    let same : suc first + k ≡ first + suc k = omega arith in
    ap (λ (ps : List QueryPlace). places_among table first 0 x.queries ++ ps)
    (from_more table (suc first) k ds d (omega arith) is ∙ ap (λ j. places_from table (suc first) (take k ds) ++ places_among table j 0 d.queries) same)
    ∙ sym (append_assoc (places_among table first 0 x.queries) (places_from table (suc first) (take k ds)) (places_among table (first + suc k) 0 d.queries))

pub definitions_more : (table : List ℕ) (k : ℕ) (ds : List Definition) (d : Definition) (mid new : List QueryPlace) → k < length ds → d ≡ get_or ds k d
    → mid ≡ places_from table 0 (take k ds) → new ≡ mid ++ places_among table k 0 d.queries → new ≡ places_from table 0 (take (suc k) ds)
definitions_more table k ds d mid new lt is before after =
    let z : 0 + k ≡ k = omega arith in
    after ∙ ap (λ (m : List QueryPlace). m ++ places_among table k 0 d.queries) before
    ∙ ap (λ j. places_from table 0 (take k ds) ++ places_among table j 0 d.queries) (sym z)
    ∙ sym (from_more table 0 k ds d lt is)

-- ---- the tables that are read

any_more : {X : Type 0} (f : X → Bool) (k : ℕ) (xs : List X) (x : X) → k < length xs → x ≡ get_or xs k x → list_any f (take (suc k) xs) ≡ (list_any f (take k xs) || f x)
any_more f k [] x lt is = absurd (omega arith)
any_more f zero (y ∷ xs) x lt is = go (f y) ∙ ap f (sym is)
  where
    go : (b : Bool) → (b || false) ≡ b
    go true = refl
    go false = refl
any_more f (suc k) (y ∷ xs) x lt is = ap (λ b. f y || b) (any_more f k xs x (omega arith) is) ∙ go (f y)
  where
    go : (b : Bool) → (b || (list_any f (take k xs) || f x)) ≡ ((b || list_any f (take k xs)) || f x)
    go true = refl
    go false = refl

module _ {X : Type 0} (f : X → Bool) (k : ℕ) (xs : List X) (x : X) (lt : k < length xs) (is : x ≡ get_or xs k x) where
  pub read_more : (old mid new : Bool) → mid ≡ (old || list_any f (take k xs)) → new ≡ (mid || f x) → new ≡ (old || list_any f (take (suc k) xs))
  read_more old mid new before after =
      after ∙ ap (λ b. b || f x) before ∙ go old ∙ ap (λ b. old || b) (sym (any_more f k xs x lt is))
    where
      go : (b : Bool) → ((b || list_any f (take k xs)) || f x) ≡ (b || (list_any f (take k xs) || f x))
      go true = refl
      go false = refl

-- a table that is put among them
pub table_put : (old new : BTreeSet (List ℕ)) (key table : List ℕ) → Updates (slice_cmp nat_cmp) old new key true → key ≡ table
    → (other : List ℕ) → contains (slice_cmp nat_cmp) new other ≡ (contains (slice_cmp nat_cmp) old other || is_table other (Some table))
table_put old new key table updates same other =
    let test = is_eq-slice_cmp key other ∙ ap (λ (n : List ℕ). bytes_eq n other) same in
    updates.0 other ∙ ap (λ b. cond b true (contains (slice_cmp nat_cmp) old other)) test ∙ go (bytes_eq table other) (contains (slice_cmp nat_cmp) old other)
  where
    go : (b c : Bool) → cond b true c ≡ (c || b)
    go true true = refl
    go true false = refl
    go false true = refl
    go false false = refl

-- ---- at each place a query of the table stands

pub got_within : {X : Type 0} (xs : List X) (k : ℕ) (x : X) → slice_get xs k ≡ Some x → k < length xs
got_within [] k x e = absurd (let n : None ≡ Some x = e in cc)
got_within (y ∷ xs) zero x e = omega arith
got_within (y ∷ xs) (suc k) x e = omega (arith, got_within xs k x e)

module _ (definitions : List Definition) (table : List ℕ) (number : ℕ) (definition : Definition) (is : slice_get definitions number ≡ Some definition) where
  among_stand : (first : ℕ) (qs : List Planned) (others : List QueryPlace) → ((k : ℕ) → slice_get definition.queries (first + k) ≡ slice_get qs k)
      → AllByRecursion (HasQuery definitions table) others → AllByRecursion (HasQuery definitions table) (places_among table number first qs ++ others)
  among_stand first [] others at h = h
  among_stand first (q ∷ qs) others at h =
      go (bytes_eq q.query.table table) refl
      (among_stand (suc first) qs others (λ k. let same : suc first + k ≡ first + suc k = omega arith in ap (slice_get definition.queries) same ∙ at (suc k)) h)
    where
      go : (b : Bool) → bytes_eq q.query.table table ≡ b → AllByRecursion (HasQuery definitions table) (places_among table number (suc first) qs ++ others)
          → AllByRecursion (HasQuery definitions table)
          ((if b then (record { definition = number; query = first }) ∷ places_among table number (suc first) qs else places_among table number (suc first) qs) ++ others)
      go true e rest =
          let z : first ≡ first + 0 = omega arith in
          (record { definition = definition; planned = q; there = record { of_rules = is; of_definition = ap (slice_get definition.queries) z ∙ at 0 }; of_table = e }, rest)
      go false e rest = rest

from_stand : (definitions : List Definition) (table : List ℕ) (first : ℕ) (ds : List Definition) → ((k : ℕ) → slice_get definitions (first + k) ≡ slice_get ds k)
    → AllByRecursion (HasQuery definitions table) (places_from table first ds)
from_stand definitions table first [] at = tt
from_stand definitions table first (d ∷ ds) at =
    let z : first ≡ first + 0 = omega arith in
    among_stand definitions table first d (ap (slice_get definitions) z ∙ at 0) 0 d.queries (places_from table (suc first) ds) (λ k. let same : 0 + k ≡ k = omega arith in ap (slice_get d.queries) same)
    (from_stand definitions table (suc first) ds (λ k. let same : suc first + k ≡ first + suc k = omega arith in ap (slice_get definitions) same ∙ at (suc k)))

pub places_stand : (definitions : List Definition) (table : List ℕ) (places : List QueryPlace) → places ≡ places_of definitions table → AllByRecursion (HasQuery definitions table) places
places_stand definitions table places is =
    subst (AllByRecursion (HasQuery definitions table)) (sym is) (from_stand definitions table 0 definitions (λ k. let same : 0 + k ≡ k = omega arith in ap (slice_get definitions) same))
