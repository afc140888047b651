-- The changes that left the rows, put in the order of their moments, are the queue of a source.
use Rattle.std.proofs.Common.{◌≡◌, ℕ, suc, ◌+◌, ◌≤◌, ◌<◌, Bool, true, false, cond, Option, Some, None, List, [], ◌∷◌, refl, sym, ap, ◌∙◌, subst, length, map, get_or, arith, inl, inr}
use Rattle.std.specs.Prelude.{T, ◌==◌, ◌&&◌, ◌||◌, nat_lt, if◌then◌else◌, sum_by, IsPermutation}
use Rattle.std.specs.declared.cmp.Ordering.{Ordering}
use Rattle.std.specs.declared.cmp.Ordering.TheVariants.{Less, Equal}
use Rattle.std.specs.BTreeMap.{is_at}
use Rattle.std.specs.Cmp.{eq_by_cmp_equiv, nat_cmp_is}
use Rattle.std.specs.FinMap.Entries.{find, is_sorted, below_all, same_entries}
use Rattle.std.specs.List.{AllByRecursion}
use Rattle.std.specs.List.Sorted.{IsStrictlySortedBy, IsSortedByKey}
use Rattle.std.specs.Map.{keys_of, lookup}
use Rattle.std.specs.Ordering.{nat_cmp, is_eq, is_lt, ordering_then}
use Rattle.std.proofs.lemmas.Bool.{cases_lt}
use Rattle.std.proofs.lemmas.Bool.Decides.{nat_tests}
use Rattle.std.proofs.lemmas.List.Sorted.{Contains-permutation, IsPermutation-sym, sum_by-IsPermutation}
use Rattle.std.proofs.lemmas.List.Sums.{sum_by-cons}
use Rattle.std.proofs.lemmas.Map.{lookup-none}
use Rattle.std.proofs.lemmas.Map.Entries.{none_past_head}
use Rattle.std.proofs.lemmas.Map.Keys.{sorted_tail, IsDistinct-from_sorted}
use Rattle.ps_rows.specs.Source.{Key, key_cmp, Version, Source}
use Rattle.ps_rows.specs.Keys.{keys_total, keys_exact}
use Rattle.ps_store.specs.Generations.{last_change, is_earlier, queue_of}
use Rattle.ps_store.specs.Originals.{Timed}
use Rattle.ps_store.specs.Rows.{in_place, live_with, live_in, HaveOwnMoments, moment_of, moment_cmp}
use Rattle.ps_store.proofs.Copies.{find_there}
use Rattle.ps_data.proofs.Members.{Has, has_map, from_map, has_contains, contains_has}
use Rattle.ps_store.proofs.Queues.{Ascend, from_queue, has_queue, queue_ascends, key_behind, sorted_behind}

-- ---- the rows that are there

both : (a b : Bool) → T a → T b → T (a && b)
both true b p q = q
both false b p q = absurd p

below_live : (k : Key) (es : List (Key × Option Version)) → AllByRecursion (λ y. key_cmp k y ≡ Less) (keys_of es) → T (below_all key_cmp k (live_in es))
below_live k [] all = tt
below_live k (e ∷ es) all = by e.1 (below_live k es all.1)
  where
    by : (o : Option Version) → T (below_all key_cmp k (live_in es)) → T (below_all key_cmp k (live_with e.0 o (live_in es)))
    by None rest = rest
    by (Some v) rest = both (is_lt (key_cmp k e.0)) (below_all key_cmp k (live_in es)) (subst (λ (o : Ordering). T (is_lt o)) (sym all.0) tt) rest

live_sorted : (es : List (Key × Option Version)) → IsStrictlySortedBy key_cmp (keys_of es) → T (is_sorted key_cmp (live_in es))
unfolding IsStrictlySortedBy
live_sorted [] h = tt
live_sorted (e ∷ es) h = by e.1 (live_sorted es h.1)
  where
    by : (o : Option Version) → T (is_sorted key_cmp (live_in es)) → T (is_sorted key_cmp (live_with e.0 o (live_in es)))
    by None rest = rest
    by (Some v) rest = both (below_all key_cmp e.0 (live_in es)) (is_sorted key_cmp (live_in es)) (below_live e.0 es h.0) rest

live_found : (es : List (Key × Option Version)) (q : Key) → IsStrictlySortedBy key_cmp (keys_of es) → find key_cmp q (live_in es) ≡ in_place (lookup (is_at (key_cmp q)) es)
live_found [] q h = refl
live_found (e ∷ es) q h =
    by (is_eq (key_cmp q e.0)) refl e.1 (live_found es q (sorted_tail key_cmp e.0 (keys_of es) h))
  where
    by : (a : Bool) → is_eq (key_cmp q e.0) ≡ a → (o : Option Version) → find key_cmp q (live_in es) ≡ in_place (lookup (is_at (key_cmp q)) es)
        → find key_cmp q (live_with e.0 o (live_in es)) ≡ in_place (cond a (Some o) (lookup (is_at (key_cmp q)) es))
    by true x (Some v) rest = ap (λ (b : Bool). cond b (Some v) (find key_cmp q (live_in es))) x
    by true x None rest =
        let none : lookup (is_at (key_cmp q)) es ≡ None =
        lookup-none (is_at (key_cmp q)) es (none_past_head (eq_by_cmp_equiv keys_total) q e es (IsDistinct-from_sorted key_cmp (keys_of (e ∷ es)) h) x) in
        rest ∙ ap in_place none
    by false x (Some v) rest = ap (λ (b : Bool). cond b (Some v) (find key_cmp q (live_in es))) x ∙ rest
    by false x None rest = rest

pub live_is : (es : List (Key × Option Version)) (source : Source) → IsStrictlySortedBy key_cmp (keys_of es) → T (is_sorted key_cmp source)
    → ((q : Key) → in_place (lookup (is_at (key_cmp q)) es) ≡ find key_cmp q source) → live_in es ≡ source
live_is es source ordered sorted same = same_entries key_cmp keys_total keys_exact (live_in es) source (live_sorted es ordered) sorted (λ q. live_found es q ordered ∙ same q)

-- ---- the order of moments

-- no later
record NotAfter (u w : Timed) : Type 0 where
  pub within : u.position ≤ w.position
  pub before : u.position ≡ w.position → u.index ≤ w.index

less_first : (u w : Timed) → w.position < u.position → is_lt (moment_cmp (moment_of w) (moment_of u)) ≡ true
less_first u w h = ap (λ (o : Ordering). is_lt (ordering_then o (nat_cmp w.index u.index))) (sym (nat_cmp_is w.position u.position Less h))

less_second : (u w : Timed) → w.position ≡ u.position → w.index < u.index → is_lt (moment_cmp (moment_of w) (moment_of u)) ≡ true
less_second u w e h =
    ap (λ (o : Ordering). is_lt (ordering_then o (nat_cmp w.index u.index))) (sym (nat_cmp_is w.position u.position Equal e))
    ∙ ap is_lt (sym (nat_cmp_is w.index u.index Less h))

not_after : (u w : Timed) → is_lt (moment_cmp (moment_of w) (moment_of u)) ≡ false → NotAfter u w
not_after u w h = elim (cases_lt w.position u.position) [
  | inl less ↦ absurd (let wrong : true ≡ false = sym (less_first u w less) ∙ h in cc)
  | inr up ↦ record {
    within = up;
    before = λ e. elim (cases_lt w.index u.index) [
      | inl less ↦ absurd (let wrong : true ≡ false = sym (less_second u w (sym e) less) ∙ h in cc)
      | inr low ↦ low
    ];
  }
]

after_then : (a b c : Timed) → NotAfter a b → NotAfter b c → NotAfter a c
after_then a b c x y = record {
  within = omega (arith, x.within, y.within);
  before = λ e.
      let one : a.position ≡ b.position = omega (arith, e, x.within, y.within) in
      let two : b.position ≡ c.position = omega (arith, e, x.within, y.within) in
      omega (arith, x.before one, y.before two);
}

abbrev NextUp : Timed → List Timed → Type 0
NextUp u [] = Unit {0}
NextUp u (w ∷ ws) = NotAfter u w

abbrev Chain : List Timed → Type 0
Chain [] = Unit {0}
Chain (u ∷ us) = NextUp u us × Chain us

abbrev Adjacent : List Timed → Type 0
Adjacent zs = (k : ℕ) (d : Timed) → 0 ≤ k → k + 1 < length zs → is_lt (moment_cmp (moment_of (get_or zs (k + 1) d)) (moment_of (get_or zs k d))) ≡ false

adjacent_rest : (u : Timed) (us : List Timed) → Adjacent (u ∷ us) → Adjacent us
adjacent_rest u us up k d low within =
    let next : suc k + 1 ≡ suc (k + 1) = omega arith in
    subst (λ (n : ℕ). is_lt (moment_cmp (moment_of (get_or (u ∷ us) n d)) (moment_of (get_or us k d))) ≡ false) next (up (suc k) d (omega arith) (omega (arith, within)))

chain_of : (zs : List Timed) → Adjacent zs → Chain zs
chain_of [] up = tt
chain_of (u ∷ []) up = (tt, tt)
chain_of (u ∷ w ∷ ws) up = (not_after u w (up 0 u (omega arith) (omega arith)), chain_of (w ∷ ws) (adjacent_rest u (w ∷ ws) up))

far : (u : Timed) (us : List Timed) → NextUp u us → Chain us → (w : Timed) → Has us w → NotAfter u w
far u [] next chain w h = absurd h
far u (x ∷ us) next chain w h = elim h [
  | inl e ↦ subst (NotAfter u) e next
  | inr k ↦ after_then u x w next (far x us chain.0 chain.1 w k)
]

-- ---- one change at each moment

abbrev at_moment : Timed → Timed → ℕ
at_moment t w = if t.position == w.position && t.index == w.index then 1 else 0

same_is : (t w : Timed) → t.position ≡ w.position → t.index ≡ w.index → at_moment t w ≡ 1
same_is t w p i = ap (λ (b : Bool). if b then 1 else 0) (tests t.position w.position t.index w.index p i)
  where
    tests : (a b c d : ℕ) → a ≡ b → c ≡ d → (a == b && c == d) ≡ true
    tests a b c d x y = grind (arith, nat_tests)

apart_is : (t w : Timed) → (t.position ≡ w.position → t.index ≡ w.index → ⊥) → at_moment t w ≡ 0
apart_is t w differ = by (t.position == w.position && t.index == w.index) refl
  where
    parts : (a b c d : ℕ) → (a == b && c == d) ≡ true → (a ≡ b) × (c ≡ d)
    parts a b c d h = (grind (arith, nat_tests), grind (arith, nat_tests))

    by : (b : Bool) → (t.position == w.position && t.index == w.index) ≡ b → (let n : ℕ = if b then 1 else 0 in n ≡ 0)
    by true h = let p = parts t.position w.position t.index w.index h in absurd (differ p.0 p.1)
    by false h = refl

some_there : (t w : Timed) (us : List Timed) → Has us w → t.position ≡ w.position → t.index ≡ w.index → 1 ≤ sum_by (at_moment t) us
some_there t w [] h p i = absurd h
some_there t w (u ∷ us) h p i = elim h [
  | inl e ↦ (let one : at_moment t u ≡ 1 = subst (λ (x : Timed). at_moment t x ≡ 1) (sym e) (same_is t w p i) in omega (arith, sum_by-cons (at_moment t) u us, one))
  | inr k ↦ omega (arith, sum_by-cons (at_moment t) u us, some_there t w us k p i)
]

none_there : (t : Timed) (us : List Timed) → ((w : Timed) → Has us w → t.position ≡ w.position → t.index ≡ w.index → ⊥) → sum_by (at_moment t) us ≡ 0
none_there t [] differ = refl
none_there t (u ∷ us) differ = omega (arith, sum_by-cons (at_moment t) u us, apart_is t u (differ u (inl refl)), none_there t us (λ w h. differ w (inr h)))

at_most_one : (t w : Timed) → at_moment t w ≤ 1
at_most_one t w = by (t.position == w.position && t.index == w.index)
  where
    by : (b : Bool) → (if b then 1 else 0) ≤ 1
    by true = omega arith
    by false = omega arith

-- no two rows were left at one moment
abbrev Differ : Source → Type 0
Differ rows = (a b : Key × Version) → Has rows a → Has rows b → a.1.position ≡ b.1.position → a.1.index ≡ b.1.index → a.0 ≡ b.0

one_each : (rows : Source) (t : Timed) → T (is_sorted key_cmp rows) → Differ rows → sum_by (at_moment t) (map last_change rows) ≤ 1
one_each [] t sorted differ = omega arith
one_each (row ∷ rows) t sorted differ = by (t.position == row.1.position && t.index == row.1.index) refl (one_each rows t (sorted_behind row rows sorted) (λ a b h k. differ a b (inr h) (inr k)))
  where
    parts : (a b c d : ℕ) → (a == b && c == d) ≡ true → (a ≡ b) × (c ≡ d)
    parts a b c d h = (grind (arith, nat_tests), grind (arith, nat_tests))

    by : (b : Bool) → (t.position == row.1.position && t.index == row.1.index) ≡ b → sum_by (at_moment t) (map last_change rows) ≤ 1 → sum_by (at_moment t) (map last_change (row ∷ rows)) ≤ 1
    by false e rest =
        let none : at_moment t (last_change row) ≡ 0 = ap (λ (b : Bool). if b then 1 else 0) e in
        omega (arith, sum_by-cons (at_moment t) (last_change row) (map last_change rows), none, rest)
    by true e rest =
        let p = parts t.position row.1.position t.index row.1.index e in
        let none : sum_by (at_moment t) (map last_change rows) ≡ 0 =
        none_there t (map last_change rows) (λ w h x y.
        let r = from_map last_change rows w h in
        key_behind row rows r.0 sorted r.1
        (differ row r.0 (inl refl) (inr r.1) (sym p.0 ∙ x ∙ ap (λ (z : Timed). z.position) (sym r.2)) (sym p.1 ∙ y ∙ ap (λ (z : Timed). z.index) (sym r.2)))) in
        omega (arith, sum_by-cons (at_moment t) (last_change row) (map last_change rows), none, at_most_one t (last_change row))

-- what does not fall and has one change at each moment rises
rise_of : (zs : List Timed) → Chain zs → ((t : Timed) → sum_by (at_moment t) zs ≤ 1) → Ascend zs
rise_of [] chain few = tt
rise_of (u ∷ us) chain few = (
  λ w h. earlier u w (far u us chain.0 chain.1 w h) (λ p i.
      absurd (omega (arith, few u, sum_by-cons (at_moment u) u us, same_is u u refl refl, some_there u w us h p i))),
  rise_of us chain.1 (λ t. omega (arith, few t, sum_by-cons (at_moment t) u us)),
)
  where
    earlier : (u w : Timed) → NotAfter u w → (u.position ≡ w.position → u.index ≡ w.index → ⊥) → is_earlier u w ≡ true
    earlier u w n differ = elim (cases_lt u.position w.position) [
      | inl less ↦ past u.position w.position (u.position == w.position && nat_lt u.index w.index) less
      | inr up ↦
          let same : u.position ≡ w.position = omega (arith, up, n.within) in
          let low : u.index < w.index = elim (cases_lt u.index w.index) [
            | inl less ↦ less
            | inr high ↦ absurd (differ same (omega (arith, high, n.before same)))
          ] in
          behind u.position w.position u.index w.index same low
    ]
      where
        past : (a b : ℕ) (t : Bool) → a < b → (nat_lt a b || t) ≡ true
        past a b t h = grind (arith, nat_tests)

        behind : (a b c d : ℕ) → a ≡ b → c < d → (nat_lt a b || (a == b && nat_lt c d)) ≡ true
        behind a b c d e h = grind (arith, nat_tests)

-- ---- one order

itself_not : (u : Timed) → is_earlier u u ≡ true → ⊥
itself_not u h = no u.position u.index h
  where
    no : (a b : ℕ) → (nat_lt a a || (a == a && nat_lt b b)) ≡ true → ⊥
    no a b e = grind (arith, nat_tests)

not_both : (u w : Timed) → is_earlier u w ≡ true → is_earlier w u ≡ true → ⊥
not_both u w h k = no u.position w.position u.index w.index h k
  where
    no : (a b c d : ℕ) → (nat_lt a b || (a == b && nat_lt c d)) ≡ true → (nat_lt b a || (b == a && nat_lt d c)) ≡ true → ⊥
    no a b c d x y = grind (arith, nat_tests)

same_order : (xs ys : List Timed) → Ascend xs → Ascend ys → ((t : Timed) → Has xs t → Has ys t) → ((t : Timed) → Has ys t → Has xs t) → xs ≡ ys
same_order [] [] up down there back = refl
same_order [] (y ∷ ys) up down there back = absurd (back y (inl refl))
same_order (x ∷ xs) [] up down there back = absurd (there x (inl refl))
same_order (x ∷ xs) (y ∷ ys) up down there back =
    let same : x ≡ y = heads in
    λ i. same i ∷ same_order xs ys up.1 down.1
    (λ t h. elim (there t (inr h)) [ inl e ↦ absurd (itself_not x (subst (λ (z : Timed). is_earlier x z ≡ true) (sym e ∙ sym same) (up.0 t h))) | inr k ↦ k ])
    (λ t h. elim (back t (inr h)) [ inl e ↦ absurd (itself_not y (subst (λ (z : Timed). is_earlier y z ≡ true) (sym e ∙ same) (down.0 t h))) | inr k ↦ k ]) i
  where
    heads : x ≡ y
    heads = elim (there x (inl refl)) [
      | inl e ↦ sym e
      | inr k ↦ elim (back y (inl refl)) [
        | inl e ↦ e
        | inr j ↦ absurd (not_both x y (up.0 y j) (down.0 x k))
      ]
    ]

-- ---- the queue

pub queue_sorted : (source : Source) (xs zs : List Timed) → HaveOwnMoments source → xs ≡ map last_change source → IsPermutation xs zs → IsSortedByKey moment_of moment_cmp zs → zs ≡ queue_of source
queue_sorted source xs zs own is perm up =
    let differ : Differ source = λ a b h k p i. own.differ a.0 b.0 a.1 b.1 (find_there source a.0 a.1 own.sorted h) (find_there source b.0 b.1 own.sorted k) p i in
    let few : (t : Timed) → sum_by (at_moment t) zs ≤ 1 = λ t.
    omega (arith, one_each source t own.sorted differ, ap (sum_by (at_moment t)) is, sum_by-IsPermutation (at_moment t) xs zs perm) in
    same_order zs (queue_of source) (rise_of zs (chain_of zs up) few) (queue_ascends source differ own.sorted)
    (λ t h.
    let back : Has (map last_change source) t = subst (λ (us : List Timed). Has us t) is (contains_has xs t (Contains-permutation zs xs t (IsPermutation-sym xs zs perm) (has_contains zs t h))) in
    let r = from_map last_change source t back in
    subst (Has (queue_of source)) r.2 (has_queue source r.0 r.1))
    (λ t h.
    let r = from_queue source t h in
    let there : Has xs t = subst (λ (us : List Timed). Has us t) (sym is) (subst (Has (map last_change source)) r.2 (has_map last_change source r.0 r.1)) in
    contains_has zs t (Contains-permutation xs zs t perm (has_contains xs t there)))
