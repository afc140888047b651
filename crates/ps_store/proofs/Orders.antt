-- The entries of a row rise: no two have one key in one bucket, and the ids of their PUTs rise with their queries' numbers.
use Rattle.std.proofs.Common.{◌≡◌, ℕ, ◌+◌, ◌<◌, ◌≤◌, List, [], ◌∷◌, refl, sym, ap, ◌∙◌, subst, arith, inl, inr}
use Rattle.std.specs.List.{AllByRecursion}
use Rattle.std.specs.List.Sorted.{IsStrictlySortedBy}
use Rattle.std.specs.Ordering.{nat_cmp, ordering_then}
use Rattle.std.specs.Cmp.{tied_itself, nat_cmp_is}
use Rattle.std.specs.Cmp.Lexicographic.{slice_cmp, nat_list_cmp_total}
use Rattle.std.specs.declared.cmp.Ordering.TheVariants.{Less, Equal, Greater}
use Rattle.std.proofs.lemmas.Bool.{cases_lt, false_from_ne_true}
use Rattle.ps_bucket_eval.specs.declared.placed.Placed.{Placed}
use Rattle.ps_bucket_eval.specs.Laws.{placed_cmp, EntriesRise}
use Rattle.ps_data.proofs.Members.{Has}
use Rattle.ps_store.proofs.Replays.{is_at, at_is, HasId, has_of_id, id_within, AreApart}

all_of : {X : Type 0} (P : X → Type 0) (xs : List X) (x : X) → AllByRecursion P xs → Has xs x → P x
all_of P [] x h i = absurd i
all_of P (y ∷ xs) x h i = elim i [ inl e ↦ subst P e h.0 | inr t ↦ all_of P xs x h.1 t ]

-- each is below those behind it
abbrev pub Rise : List Placed → Type 0
Rise [] = Unit {0}
Rise (x ∷ xs) = ((y : Placed) → Has xs y → placed_cmp x y ≡ Less) × Rise xs

pub rise_of : (xs : List Placed) → EntriesRise xs → Rise xs
unfolding IsStrictlySortedBy
rise_of [] h = tt
rise_of (x ∷ xs) h = (λ y i. all_of (λ z. placed_cmp x z ≡ Less) xs y h.0 i, rise_of xs h.1)

-- ---- two entries in order

less_within : (a b : Placed) → placed_cmp a b ≡ Less → a.number ≤ b.number
less_within a b h = elim (cases_lt b.number a.number) [
  | inl lt ↦
      let over : placed_cmp a b ≡ Greater = ap (λ o. ordering_then o (slice_cmp nat_cmp a.bucket b.bucket)) (sym (nat_cmp_is a.number b.number Greater lt)) in
      absurd (let wrong : Less ≡ Greater = sym h ∙ over in cc)
  | inr le ↦ le
]

less_apart : (a b : Placed) → placed_cmp a b ≡ Less → a.number ≡ b.number → a.bucket ≡ b.bucket → ⊥
less_apart a b h number bucket =
    let same : placed_cmp a b ≡ Equal =
    ap (λ o. ordering_then o (slice_cmp nat_cmp a.bucket b.bucket)) (sym (nat_cmp_is a.number b.number Equal number))
    ∙ subst (λ c. slice_cmp nat_cmp a.bucket c ≡ Equal) bucket (tied_itself nat_list_cmp_total a.bucket) in
    let wrong : Less ≡ Equal = sym h ∙ same in cc

-- ---- lists that rise

pub apart_of : (xs : List Placed) → Rise xs → ((x y : Placed) → Has xs x → Has xs y → x.key ≡ y.key → x.number ≡ y.number) → AreApart xs
apart_of [] h f = tt
apart_of (x ∷ xs) h f = (
  λ y i. false_from_ne_true (is_at x.bucket x.key y) (λ e.
      let same = at_is x.bucket x.key y e in
      less_apart x y (h.0 y i) (f x y (inl refl) (inr i) same.1) same.0),
  apart_of xs h.1 (λ a b i j. f a b (inr i) (inr j)),
)

pub ids_rise : (next : ℕ) (xs : List Placed) (x y : Placed) (m n : ℕ) → Rise xs → HasId next xs x m → HasId next xs y n → x.number < y.number → m < n
ids_rise next [] x y m n h i j lt = absurd i
ids_rise next (z ∷ zs) x y m n h i j lt = elim i [
  | inl a ↦ elim j [
    | inl b ↦ absurd (omega (arith, lt, ap (λ (w : Placed). w.number) a.0, ap (λ (w : Placed). w.number) b.0))
    | inr b ↦ let within = id_within (next + 1) zs y n b in omega (arith, a.1, within.0)
  ]
  | inr a ↦ elim j [
    | inl b ↦ let within = less_within z x (h.0 x (has_of_id (next + 1) zs x m a)) in absurd (omega (arith, lt, within, ap (λ (w : Placed). w.number) b.0))
    | inr b ↦ ids_rise (next + 1) zs x y m n h.1 a b lt
  ]
]
