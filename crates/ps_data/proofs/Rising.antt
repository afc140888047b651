-- Lists in which each is below those behind it: what is put into them, and which lists are the same.
use Rattle.std.proofs.Common.{◌≡◌, ℕ, suc, ◌≤◌, List, [], ◌∷◌, length, refl, sym, ap, ◌∙◌, subst, arith, inl, inr}
use Rattle.std.specs.Prelude.{◌⊎◌}
use Rattle.std.specs.List.{AllByRecursion}
use Rattle.std.specs.List.Sorted.{IsStrictlySortedBy}
use Rattle.std.specs.Ordering.{match_ordering, ordering_reverse}
use Rattle.std.specs.Cmp.{IsTotalOrder, tied_itself}
use Rattle.std.specs.declared.cmp.Ordering.{Ordering}
use Rattle.std.specs.declared.cmp.Ordering.TheVariants.{Less, Equal, Greater}
use Rattle.std.specs.BTreeSet.{insert_key}
use Rattle.ps_data.proofs.Members.{Has}

module _ {K : Type 0} (cmp : K → K → Ordering) (exact : (x y : K) → cmp x y ≡ Equal → x ≡ y) where
  -- what was put in is there, and all that was there
  pub insert_has : (xs : List K) (k q : K) → ((k ≡ q) ⊎ Has xs q) → Has (insert_key cmp xs k) q
  insert_has [] k q h = h
  insert_has (x ∷ xs) k q h = elim (cmp k x) as (λ o. cmp k x ≡ o → Has (match_ordering o (k ∷ x ∷ xs) (x ∷ xs) (x ∷ insert_key cmp xs k)) q) [
    | Less ↦ λ e. h
    | Equal ↦ λ e. elim h [ inl a ↦ inl (sym (exact k x e) ∙ a) | inr b ↦ b ]
    | Greater ↦ λ e. elim h [
      | inl a ↦ inr (insert_has xs k q (inl a))
      | inr b ↦ elim b [ inl c ↦ inl c | inr d ↦ inr (insert_has xs k q (inr d)) ]
    ]
  ] refl

  -- and nothing else is
  pub from_insert : (xs : List K) (k q : K) → Has (insert_key cmp xs k) q → (k ≡ q) ⊎ Has xs q
  from_insert [] k q h = h
  from_insert (x ∷ xs) k q h = elim (cmp k x) as (λ o. Has (match_ordering o (k ∷ x ∷ xs) (x ∷ xs) (x ∷ insert_key cmp xs k)) q → (k ≡ q) ⊎ Has (x ∷ xs) q) [
    | Less ↦ λ i. i
    | Equal ↦ λ i. inr i
    | Greater ↦ λ i. elim i [
      | inl a ↦ inr (inl a)
      | inr b ↦ elim (from_insert xs k q b) [ inl c ↦ inl c | inr d ↦ inr (inr d) ]
    ]
  ] h

  pub insert_longer : (xs : List K) (k : K) → length xs ≤ length (insert_key cmp xs k)
  insert_longer [] k = omega arith
  insert_longer (x ∷ xs) k = elim (cmp k x) as (λ o. suc (length xs) ≤ length (match_ordering o (k ∷ x ∷ xs) (x ∷ xs) (x ∷ insert_key cmp xs k))) [
    | Less ↦ omega arith
    | Equal ↦ omega arith
    | Greater ↦ omega (arith, insert_longer xs k)
  ]

-- each is below those behind it
abbrev pub Rises : {K : Type 0} → (K → K → Ordering) → List K → Type 0
Rises {K} cmp [] = Unit {0}
Rises {K} cmp (x ∷ xs) = ((y : K) → Has xs y → cmp x y ≡ Less) × Rises cmp xs

module _ {K : Type 0} (cmp : K → K → Ordering) (total : IsTotalOrder cmp) (exact : (x y : K) → cmp x y ≡ Equal → x ≡ y) where
  turned : (o : Ordering) → ordering_reverse o ≡ Less → o ≡ Greater
  turned Less h = absurd (cc)
  turned Equal h = absurd (cc)
  turned Greater h = refl

  less : (k x : K) → cmp k x ≡ Greater → cmp x k ≡ Less
  less k x e = total.antisymm x k ∙ ap ordering_reverse e

  pub insert_rises : (xs : List K) (k : K) → Rises cmp xs → Rises cmp (insert_key cmp xs k)
  insert_rises [] k h = (λ y n. absurd n, tt)
  insert_rises (x ∷ xs) k h = elim (cmp k x) as (λ o. cmp k x ≡ o → Rises cmp (match_ordering o (k ∷ x ∷ xs) (x ∷ xs) (x ∷ insert_key cmp xs k))) [
    | Less ↦ λ e. (λ y i. elim i [ inl a ↦ subst (λ z. cmp k z ≡ Less) a e | inr b ↦ total.trans k x y e (h.0 y b) ], h)
    | Equal ↦ λ e. h
    | Greater ↦ λ e. (
      λ y i. elim (from_insert cmp exact xs k y i) [ inl a ↦ subst (λ z. cmp x z ≡ Less) a (less k x e) | inr b ↦ h.0 y b ],
      insert_rises xs k h.1,
    )
  ] refl

  -- none is below itself
  pub never : (x : K) → cmp x x ≡ Less → ⊥
  never x e = let n : Less ≡ Equal = sym e ∙ tied_itself total x in cc

  -- two that have the same are the same
  pub same_risen : (xs ys : List K) → Rises cmp xs → Rises cmp ys → ((q : K) → Has xs q → Has ys q) → ((q : K) → Has ys q → Has xs q) → xs ≡ ys
  same_risen [] [] h k f g = refl
  same_risen [] (y ∷ ys) h k f g = absurd (g y (inl refl))
  same_risen (x ∷ xs) [] h k f g = absurd (f x (inl refl))
  same_risen (x ∷ xs) (y ∷ ys) h k f g =
      let head : x ≡ y = elim (f x (inl refl)) [
        | inl e ↦ sym e
        | inr a ↦ elim (g y (inl refl)) [
          | inl e ↦ e
          | inr b ↦ absurd (never x (total.trans x y x (h.0 y b) (k.0 x a)))
        ]
      ] in
      let tail : xs ≡ ys = same_risen xs ys h.1 k.1
      (λ q a. elim (f q (inr a)) [ inl e ↦ absurd (never q (subst (λ z. cmp z q ≡ Less) (head ∙ e) (h.0 q a))) | inr b ↦ b ])
      (λ q a. elim (g q (inr a)) [ inl e ↦ absurd (never q (subst (λ z. cmp z q ≡ Less) (sym head ∙ e) (k.0 q a))) | inr b ↦ b ]) in
      λ i. head i ∷ tail i

-- by the words of a set
module _ {K : Type 0} (cmp : K → K → Ordering) where
  each_less : (x : K) (ys : List K) → ((y : K) → Has ys y → cmp x y ≡ Less) → AllByRecursion (λ y. cmp x y ≡ Less) ys
  each_less x [] f = tt
  each_less x (y ∷ ys) f = (f y (inl refl), each_less x ys (λ z i. f z (inr i)))

  pub rises_sorted : (xs : List K) → Rises cmp xs → IsStrictlySortedBy cmp xs
  unfolding IsStrictlySortedBy
  rises_sorted [] h = tt
  rises_sorted (x ∷ xs) h = (each_less x xs h.0, rises_sorted xs h.1)

  less_each : (x : K) (ys : List K) → AllByRecursion (λ y. cmp x y ≡ Less) ys → (y : K) → Has ys y → cmp x y ≡ Less
  less_each x [] h y i = absurd i
  less_each x (z ∷ ys) h y i = elim i [ inl e ↦ subst (λ w. cmp x w ≡ Less) e h.0 | inr t ↦ less_each x ys h.1 y t ]

  pub sorted_rises : (xs : List K) → IsStrictlySortedBy cmp xs → Rises cmp xs
  unfolding IsStrictlySortedBy
  sorted_rises [] h = tt
  sorted_rises (x ∷ xs) h = (less_each x xs h.0, sorted_rises xs h.1)
