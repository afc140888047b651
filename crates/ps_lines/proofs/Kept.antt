-- Of a bucket that is named twice the last entry is kept.
use Rattle.std.proofs.Common.{◌≡◌, ℕ, Bool, true, false, ◌||◌, not, List, [], ◌∷◌, ◌++◌, map, reverse, cond, bytes_eq, nat_cmp, refl, sym, ap, subst, ◌∙◌, append_assoc}
use Rattle.std.specs.List.{All, AllByRecursion, IsDistinct}
use Rattle.std.specs.BTreeSet.{BTreeSet, contains, Updates}
use Rattle.std.specs.Cmp.Lexicographic.{slice_cmp, nat_list_eq_equiv}
use Rattle.std.proofs.lemmas.List.{reverse-append}
use Rattle.std.proofs.lemmas.List.Elements.{All-cons, All-head, All-tail}
use Rattle.std.proofs.lemmas.Map.Text.{is_eq-slice_cmp}
use Rattle.ps_lines.specs.declared.bodies.Known.{Known}
use Rattle.ps_lines.specs.Bodies.{names, last_ones}

abbrev pub Names : BTreeSet (List ℕ) → List Known → Type 0
Names named later = (q : List ℕ) → contains (slice_cmp nat_cmp) named q ≡ names q later

-- what is known of the entries behind those that are left
abbrev pub Behind : List Known → List Known → List Known → BTreeSet (List ℕ) → Type 0
Behind all left kept named = (later : List Known) × (all ≡ left ++ later) × (reverse kept ≡ last_ones later) × Names named later

or_cond : (a b : Bool) → cond a true b ≡ (a || b)
or_cond true b = refl
or_cond false b = refl

names_more : (old new : BTreeSet (List ℕ)) (key : List ℕ) (known : Known) (later : List Known) → Updates (slice_cmp nat_cmp) old new key true
    → Names old later → key ≡ known.bucket → Names new (known ∷ later)
names_more old new key known later updates held same q =
    updates.0 q ∙ ap (λ b. cond b true (contains (slice_cmp nat_cmp) old q)) (is_eq-slice_cmp key q ∙ ap (λ (n : List ℕ). bytes_eq n q) same)
    ∙ ap (λ b. cond (bytes_eq known.bucket q) true b) (held q) ∙ or_cond (bytes_eq known.bucket q) (names q later)

split_more : (all old left later : List Known) (known : Known) → all ≡ old ++ later → old ≡ left ++ known ∷ [] → all ≡ left ++ known ∷ later
split_more all old left later known whole more = whole ∙ ap (λ xs. xs ++ later) more ∙ append_assoc left (known ∷ []) later

-- an entry of a bucket that a later one names
pub overridden : (all before left kept : List Known) (known : Known) (key : List ℕ) (old new : BTreeSet (List ℕ)) → Behind all before kept old
    → before ≡ left ++ known ∷ [] → key ≡ known.bucket → Updates (slice_cmp nat_cmp) old new key true → contains (slice_cmp nat_cmp) old key ≡ true
    → Behind all left kept new
overridden all before left kept known key old new held more same updates is =
    let later = held.0 in
    let named : names known.bucket later ≡ true = ap (λ (q : List ℕ). names q later) (sym same) ∙ sym (held.3 key) ∙ is in (
      known ∷ later,
      split_more all before left later known held.1 more,
      rw named held.2,
      names_more old new key known later updates held.3 same,
    )

-- an entry that none overrides
pub stays : (all before left kept longer : List Known) (known : Known) (key : List ℕ) (old new : BTreeSet (List ℕ)) → Behind all before kept old
    → before ≡ left ++ known ∷ [] → key ≡ known.bucket → Updates (slice_cmp nat_cmp) old new key true → contains (slice_cmp nat_cmp) old key ≡ false
    → longer ≡ kept ++ known ∷ [] → Behind all left longer new
stays all before left kept longer known key old new held more same updates is pushed =
    let later = held.0 in
    let named : names known.bucket later ≡ false = ap (λ (q : List ℕ). names q later) (sym same) ∙ sym (held.3 key) ∙ is in (
      known ∷ later,
      split_more all before left later known held.1 more,
      rw named (ap reverse pushed ∙ reverse-append kept (known ∷ []) ∙ ap (λ ks. known ∷ ks) held.2),
      names_more old new key known later updates held.3 same,
    )

-- ---- what is kept

abbrev buckets_of : List Known → List (List ℕ)
buckets_of entries = map (λ known. known.bucket) entries

neither : (a b : Bool) → (a || b) ≡ false → (a ≡ false) × (b ≡ false)
neither true b h = (h, cc)
neither false b h = (refl, h)

apart_by : (b : Bool) (bucket : List ℕ) (known : Known) (kept : List Known) → bytes_eq bucket known.bucket ≡ false
    → AllByRecursion (λ other. bytes_eq bucket other ≡ false) (buckets_of kept)
    → AllByRecursion (λ other. bytes_eq bucket other ≡ false) (buckets_of (cond b kept (known ∷ kept)))
apart_by true bucket known kept here there = there
apart_by false bucket known kept here there = (here, there)

-- entries of other buckets stay so
kept_apart : (bucket : List ℕ) (entries : List Known) → names bucket entries ≡ false → AllByRecursion (λ other. bytes_eq bucket other ≡ false) (buckets_of (last_ones entries))
kept_apart bucket [] h = tt
kept_apart bucket (known ∷ later) h =
    let apart = neither (bytes_eq known.bucket bucket) (names bucket later) h in
    apart_by (names known.bucket later) bucket known (last_ones later) (nat_list_eq_equiv.symm bucket known.bucket ∙ apart.0) (kept_apart bucket later apart.1)

distinct_by : (b : Bool) (known : Known) (later : List Known) → names known.bucket later ≡ b → IsDistinct bytes_eq (buckets_of (last_ones later))
    → IsDistinct bytes_eq (buckets_of (cond b (last_ones later) (known ∷ last_ones later)))
unfolding IsDistinct
distinct_by true known later e h = h
distinct_by false known later e h = (kept_apart known.bucket later e, h)

pub kept_distinct : (entries : List Known) → IsDistinct bytes_eq (buckets_of (last_ones entries))
unfolding IsDistinct
kept_distinct [] = tt
kept_distinct (known ∷ later) = distinct_by (names known.bucket later) known later refl (kept_distinct later)

none_names : (bucket : List ℕ) (entries : List Known) → AllByRecursion (λ other. bytes_eq bucket other ≡ false) (buckets_of entries) → names bucket entries ≡ false
none_names bucket [] h = refl
none_names bucket (known ∷ entries) h = rw (nat_list_eq_equiv.symm known.bucket bucket, h.0) (none_names bucket entries h.1)

-- entries of buckets that are named once are kept
pub distinct_kept : (entries : List Known) → IsDistinct bytes_eq (buckets_of entries) → last_ones entries ≡ entries
unfolding IsDistinct
distinct_kept [] h = refl
distinct_kept (known ∷ later) h = rw (none_names known.bucket later h.0) (ap (λ ks. known ∷ ks) (distinct_kept later h.1))

all_by : (P : Known → Type 0) (b : Bool) (known : Known) (later : List Known) → P known → All P later → All P (cond b later (known ∷ later))
all_by P true known later here there = there
all_by P false known later here there = All-cons P known later here there

pub kept_all : (P : Known → Type 0) (entries : List Known) → All P entries → All P (last_ones entries)
kept_all P [] h = h
kept_all P (known ∷ later) h = all_by P (names known.bucket later) known (last_ones later) (All-head P known later h) (kept_all P later (All-tail P known later h))

pub distinct_of : (kept entries : List Known) → kept ≡ last_ones entries → IsDistinct bytes_eq (buckets_of kept)
distinct_of kept entries e = let P : List Known → Type 0 = λ ks. IsDistinct bytes_eq (buckets_of ks) in subst P (sym e) (kept_distinct entries)

pub all_of : (P : Known → Type 0) (kept entries : List Known) → kept ≡ last_ones entries → All P entries → All P kept
all_of P kept entries e h = subst (λ (ks : List Known). All P ks) (sym e) (kept_all P entries h)

pub held_by : (added held : Bool) → added ≡ not held → added ≡ false → held ≡ true
held_by added true e h = refl
held_by added false e h = sym h ∙ e

pub not_held : (added held : Bool) → added ≡ not held → added ≡ true → held ≡ false
not_held added true e h = sym h ∙ e
not_held added false e h = refl
