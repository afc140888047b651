-- What is in a list, by recursion.
use Rattle.std.proofs.Common.{◌≡◌, ℕ, zero, suc, ◌<◌, Bool, true, false, cond, List, [], ◌∷◌, ◌++◌, length, get_or, map, refl, sym, ap, ◌∙◌, subst, arith, inl, inr}
use Rattle.std.specs.Prelude.{◌⊎◌, filter, flat_map, Contains}
use Rattle.std.specs.List.{list_any, list_all}
use Rattle.std.proofs.lemmas.Bool.{or_cases, or_left, or_right, and_parts, and_from}

abbrev pub Has : {X : Type 0} → List X → X → Type 0
Has [] x = ⊥
Has (y ∷ ys) x = (y ≡ x) ⊎ Has ys x

pub has_left : {X : Type 0} (xs ys : List X) (x : X) → Has xs x → Has (xs ++ ys) x
has_left [] ys x h = absurd h
has_left (y ∷ xs) ys x h = elim h [ inl e ↦ inl e | inr t ↦ inr (has_left xs ys x t) ]

pub has_right : {X : Type 0} (xs ys : List X) (x : X) → Has ys x → Has (xs ++ ys) x
has_right [] ys x h = h
has_right (y ∷ xs) ys x h = inr (has_right xs ys x h)

pub has_cases : {X : Type 0} (xs ys : List X) (x : X) → Has (xs ++ ys) x → Has xs x ⊎ Has ys x
has_cases [] ys x h = inr h
has_cases (y ∷ xs) ys x h = elim h [
  | inl e ↦ inl (inl e)
  | inr t ↦ elim (has_cases xs ys x t) [ inl a ↦ inl (inr a) | inr b ↦ inr b ]
]

pub has_map : {X Y : Type 0} (f : X → Y) (xs : List X) (x : X) → Has xs x → Has (map f xs) (f x)
has_map f [] x h = absurd h
has_map f (y ∷ xs) x h = elim h [ inl e ↦ inl (ap f e) | inr t ↦ inr (has_map f xs x t) ]

pub from_map : {X Y : Type 0} (f : X → Y) (xs : List X) (y : Y) → Has (map f xs) y → (x : X) × Has xs x × (f x ≡ y)
from_map f [] y h = absurd h
from_map f (x ∷ xs) y h = elim h [
  | inl e ↦ (x, inl refl, e)
  | inr t ↦ let r = from_map f xs y t in (r.0, inr r.1, r.2)
]

pub has_flat : {X Y : Type 0} (f : X → List Y) (xs : List X) (x : X) (y : Y) → Has xs x → Has (f x) y → Has (flat_map f xs) y
has_flat f [] x y h k = absurd h
has_flat f (z ∷ xs) x y h k = elim h [
  | inl e ↦ has_left (f z) (flat_map f xs) y (subst (λ w. Has (f w) y) (sym e) k)
  | inr t ↦ has_right (f z) (flat_map f xs) y (has_flat f xs x y t k)
]

pub from_flat : {X Y : Type 0} (f : X → List Y) (xs : List X) (y : Y) → Has (flat_map f xs) y → (x : X) × Has xs x × Has (f x) y
from_flat f [] y h = absurd h
from_flat f (z ∷ xs) y h = elim (has_cases (f z) (flat_map f xs) y h) [
  | inl a ↦ (z, inl refl, a)
  | inr t ↦ let r = from_flat f xs y t in (r.0, inr r.1, r.2)
]

kept : {X : Type 0} (b : Bool) (xs : List X) (y x : X) → ((y ≡ x) → b ≡ true) → ((y ≡ x) ⊎ Has xs x) → Has (cond b (y ∷ xs) xs) x
kept true xs y x t h = h
kept false xs y x t h = elim h [ inl e ↦ absurd (let n : false ≡ true = t e in cc) | inr r ↦ r ]

pub has_filter : {X : Type 0} (p : X → Bool) (xs : List X) (x : X) → Has xs x → p x ≡ true → Has (filter p xs) x
has_filter p [] x h k = absurd h
has_filter p (y ∷ xs) x h k = kept (p y) (filter p xs) y x (λ e. ap p e ∙ k) (elim h [ inl e ↦ inl e | inr t ↦ inr (has_filter p xs x t k) ])

left_kept : {X : Type 0} (b : Bool) (xs : List X) (y x : X) → Has (cond b (y ∷ xs) xs) x → ((b ≡ true) × (y ≡ x)) ⊎ Has xs x
left_kept true xs y x h = elim h [ inl e ↦ inl (refl, e) | inr t ↦ inr t ]
left_kept false xs y x h = inr h

pub from_filter : {X : Type 0} (p : X → Bool) (xs : List X) (x : X) → Has (filter p xs) x → Has xs x × (p x ≡ true)
from_filter p [] x h = absurd h
from_filter p (y ∷ xs) x h = elim (left_kept (p y) (filter p xs) y x h) [
  | inl e ↦ (inl e.1, ap p (sym e.1) ∙ e.0)
  | inr t ↦ let r = from_filter p xs x t in (inr r.0, r.1)
]

pub any_has : {X : Type 0} (p : X → Bool) (xs : List X) → list_any p xs ≡ true → (x : X) × Has xs x × (p x ≡ true)
any_has p [] h = absurd (cc)
any_has p (x ∷ xs) h = elim (or_cases (p x) (list_any p xs) h) [
  | inl e ↦ (x, inl refl, e)
  | inr t ↦ let r = any_has p xs t in (r.0, inr r.1, r.2)
]

pub has_any : {X : Type 0} (p : X → Bool) (xs : List X) (x : X) → Has xs x → p x ≡ true → list_any p xs ≡ true
has_any p [] x h k = absurd h
has_any p (y ∷ xs) x h k = elim h [
  | inl e ↦ or_left (p y) (list_any p xs) (ap p e ∙ k)
  | inr t ↦ or_right (p y) (list_any p xs) (has_any p xs x t k)
]

pub all_has : {X : Type 0} (p : X → Bool) (xs : List X) (x : X) → list_all p xs ≡ true → Has xs x → p x ≡ true
all_has p [] x h k = absurd k
all_has p (y ∷ xs) x h k = let parts = and_parts (p y) (list_all p xs) h in elim k [
  | inl e ↦ ap p (sym e) ∙ parts.0
  | inr t ↦ all_has p xs x parts.1 t
]

pub has_all : {X : Type 0} (p : X → Bool) (xs : List X) → ((x : X) → Has xs x → p x ≡ true) → list_all p xs ≡ true
has_all p [] h = refl
has_all p (y ∷ xs) h = and_from (p y) (list_all p xs) (h y (inl refl)) (has_all p xs (λ x k. h x (inr k)))

-- none passes
pub none_has : {X : Type 0} (p : X → Bool) (xs : List X) (x : X) → list_any p xs ≡ false → Has xs x → p x ≡ false
none_has p xs x h k = elim (p x) as (λ b. p x ≡ b → b ≡ false) [ true ↦ λ e. let n : true ≡ false = sym (has_any p xs x k e) ∙ h in n | false ↦ λ e. refl ] refl

pub has_contains : {X : Type 0} (xs : List X) (x : X) → Has xs x → Contains xs x
has_contains [] x h = absurd h
has_contains (y ∷ xs) x h = elim h [
  | inl e ↦ (0, omega arith, e)
  | inr t ↦ let r = has_contains xs x t in (suc r.0, omega (arith, r.1), r.2)
]

has_at : {X : Type 0} (xs : List X) (x : X) (k : ℕ) → k < length xs → get_or xs k x ≡ x → Has xs x
has_at [] x k h e = absurd (omega arith)
has_at (y ∷ xs) x zero h e = inl e
has_at (y ∷ xs) x (suc k) h e = inr (has_at xs x k (omega arith) e)

pub contains_has : {X : Type 0} (xs : List X) (x : X) → Contains xs x → Has xs x
contains_has xs x c = has_at xs x c.0 c.1 c.2
