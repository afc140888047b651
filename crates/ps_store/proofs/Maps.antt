-- A map after the value at one of its keys was changed, and what is read of it.
use Rattle.std.proofs.Common.{◌≡◌, ℕ, ◌+◌, ◌≤◌, Bool, true, false, cond, List, Option, Some, None, refl, sym, ap, ◌∙◌, subst, arith}
use Rattle.std.specs.Prelude.{bytes_eq, if◌then◌else◌}
use Rattle.std.specs.BTreeMap.{BTreeMap, get}
use Rattle.std.specs.Cmp.Lexicographic.{slice_cmp}
use Rattle.std.specs.Ordering.{nat_cmp, is_eq, eq_by_cmp}
use Rattle.std.specs.Cmp.{eq_by_cmp_equiv}
use Rattle.std.specs.declared.cmp.Ordering.{Ordering}
use Rattle.std.specs.declared.cmp.Ordering.TheVariants.{Less, Equal, Greater}
use Rattle.std.proofs.lemmas.Bool.Decides.{nat_tests}
use Rattle.std.proofs.lemmas.Cmp.{same_from_slice_cmp, nat_list_eq_equiv}
use Rattle.std.proofs.lemmas.Slice.Eq.{bytes_eq-Decides}
use Rattle.ps_rows.specs.Source.{Key, key_cmp}
use Rattle.ps_rows.specs.Keys.{keys_total, keys_exact}

-- ---- texts, and tables with ids, as keys

tied_texts : (a b : List ℕ) → is_eq (slice_cmp nat_cmp a b) ≡ bytes_eq a b
tied_texts a b = same_from_slice_cmp nat_cmp is_eq bytes_eq refl (λ _ _. refl) (λ _ _. refl) (λ x y xs ys o h. grind (arith, nat_tests)) a b (slice_cmp nat_cmp a b) refl

pub tied : (a b : List ℕ) → is_eq (slice_cmp nat_cmp a b) ≡ bytes_eq b a
tied a b = tied_texts a b ∙ nat_list_eq_equiv.symm a b

pub equal : (a b : List ℕ) → bytes_eq a b ≡ true → a ≡ b
equal a b h = (bytes_eq-Decides a b).0 h

pub tied_rows : (a b : Key) → is_eq (key_cmp a b) ≡ eq_by_cmp key_cmp b a
tied_rows a b = (eq_by_cmp_equiv keys_total).symm a b

pub equal_rows : (a b : Key) → eq_by_cmp key_cmp a b ≡ true → a ≡ b
equal_rows a b h = keys_exact a b (equal_from (key_cmp a b) h)
  where
    equal_from : (o : Ordering) → is_eq o ≡ true → o ≡ Equal
    equal_from Less e = absurd (cc)
    equal_from Equal e = refl
    equal_from Greater e = absurd (cc)

-- ---- one value changes

module _ {K X : Type 0} (cmp : K → K → Ordering) where
  -- the map new is old with w at the key
  abbrev pub Puts : BTreeMap K X → BTreeMap K X → K → X → Type 0
  Puts old new key w = (q : K) → get cmp new q ≡ cond (is_eq (cmp key q)) (Some w) (get cmp old q)

  -- and without the key
  abbrev pub Takes : BTreeMap K X → BTreeMap K X → K → Type 0
  Takes old new key = (q : K) → get cmp new q ≡ cond (is_eq (cmp key q)) None (get cmp old q)

module _ {K X Y : Type 0} (cmp : K → K → Ordering) (same : K → K → Bool) (ties : (a b : K) → is_eq (cmp a b) ≡ same b a) (equals : (a b : K) → same a b ≡ true → a ≡ b) (f : Option X → Y) where
  -- what a reading of the map gives afterwards
  pub read_after : (old new : BTreeMap K X) (key : K) (w : Option X) → ((q : K) → get cmp new q ≡ cond (is_eq (cmp key q)) w (get cmp old q))
      → (other : K) → f (get cmp new other) ≡ (if same other key then f w else f (get cmp old other))
  read_after old new key w puts other =
      ap f (puts other ∙ ap (λ t. cond t w (get cmp old other)) (ties key other))
      ∙ elim (same other key) as (λ b. f (cond b w (get cmp old other)) ≡ (if b then f w else f (get cmp old other))) [ true ↦ refl | false ↦ refl ]

  -- the same, where what is read there changes by g
  pub read_changed : (g : Y → Y) (old new : BTreeMap K X) (key : K) (w : Option X) → ((q : K) → get cmp new q ≡ cond (is_eq (cmp key q)) w (get cmp old q))
      → f w ≡ g (f (get cmp old key)) → (other : K) → f (get cmp new other) ≡ (if same other key then g (f (get cmp old other)) else f (get cmp old other))
  read_changed g old new key w puts is other = read_after old new key w puts other ∙ by (same other key) refl
    where
      by : (b : Bool) → same other key ≡ b → (if b then f w else f (get cmp old other)) ≡ (if b then g (f (get cmp old other)) else f (get cmp old other))
      by true e = is ∙ ap (λ q. g (f (get cmp old q))) (sym (equals other key e))
      by false e = refl

  -- the same, where what is read there stays
  pub read_kept : (old new : BTreeMap K X) (key : K) (w : Option X) → ((q : K) → get cmp new q ≡ cond (is_eq (cmp key q)) w (get cmp old q))
      → f w ≡ f (get cmp old key) → (other : K) → f (get cmp new other) ≡ f (get cmp old other)
  read_kept old new key w puts is other = read_changed (λ y. y) old new key w puts is other ∙ by (same other key)
    where
      by : (b : Bool) → (if b then f (get cmp old other) else f (get cmp old other)) ≡ f (get cmp old other)
      by true = refl
      by false = refl

module _ {K X : Type 0} (cmp : K → K → Ordering) (same : K → K → Bool) (ties : (a b : K) → is_eq (cmp a b) ≡ same b a) (equals : (a b : K) → same a b ≡ true → a ≡ b) (f : Option X → ℕ) where
  -- a number that is read there falls by at most n
  pub read_less : (n : ℕ) (old new : BTreeMap K X) (key : K) (w : Option X) → ((q : K) → get cmp new q ≡ cond (is_eq (cmp key q)) w (get cmp old q))
      → f (get cmp old key) ≤ f w + n → (other : K) → f (get cmp old other) ≤ f (get cmp new other) + (if same other key then n else 0)
  read_less n old new key w puts is other =
      subst (λ y. f (get cmp old other) ≤ y + (if same other key then n else 0)) (sym (read_after cmp same ties equals f old new key w puts other)) (by (same other key) refl)
    where
      by : (b : Bool) → same other key ≡ b → f (get cmp old other) ≤ (if b then f w else f (get cmp old other)) + (if b then n else 0)
      by true e = subst (λ q. f (get cmp old q) ≤ f w + n) (sym (equals other key e)) is
      by false e = omega arith

  -- a number that is read there does not fall
  pub read_more : (old new : BTreeMap K X) (key : K) (w : Option X) → ((q : K) → get cmp new q ≡ cond (is_eq (cmp key q)) w (get cmp old q))
      → f (get cmp old key) ≤ f w → (other : K) → f (get cmp old other) ≤ f (get cmp new other)
  read_more old new key w puts is other = by (same other key) (read_less 0 old new key w puts (omega arith) other)
    where
      by : (b : Bool) → f (get cmp old other) ≤ f (get cmp new other) + (if b then 0 else 0) → f (get cmp old other) ≤ f (get cmp new other)
      by true h = omega arith
      by false h = omega arith
