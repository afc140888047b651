-- One item more of a list that a loop goes along.
use Rattle.std.proofs.Common.{◌≡◌, ℕ, ◌+◌, ◌<◌, ◌≤◌, Bool, true, false, cond, List, [], ◌∷◌, length, drop, get_or, filter, sym, ap, ◌∙◌, subst}
use Rattle.std.specs.List.{AllByRecursion}
use Rattle.std.proofs.lemmas.List.{drop_more, drop_all}

module _ {A : Type 0} (xs : List A) (i : ℕ) (x : A) (within : i < length xs) (is : x ≡ get_or xs i x) where
  pub next_is : drop i xs ≡ x ∷ drop (i + 1) xs
  next_is = drop_more xs i x within ∙ ap (λ y. y ∷ drop (i + 1) xs) (sym is)

  pub filter_taken : (p : A → Bool) → p x ≡ true → filter p (drop i xs) ≡ x ∷ filter p (drop (i + 1) xs)
  filter_taken p h = ap (filter p) next_is ∙ ap (λ b. cond b (x ∷ filter p (drop (i + 1) xs)) (filter p (drop (i + 1) xs))) h

  pub filter_passed : (p : A → Bool) → p x ≡ false → filter p (drop i xs) ≡ filter p (drop (i + 1) xs)
  filter_passed p h = ap (filter p) next_is ∙ ap (λ b. cond b (x ∷ filter p (drop (i + 1) xs)) (filter p (drop (i + 1) xs))) h

  pub holds_here : (P : A → Type 0) → AllByRecursion P (drop i xs) → P x
  holds_here P h = (subst (λ (ys : List A). AllByRecursion P ys) next_is h).0

  pub holds_later : (P : A → Type 0) → AllByRecursion P (drop i xs) → AllByRecursion P (drop (i + 1) xs)
  holds_later P h = (subst (λ (ys : List A). AllByRecursion P ys) next_is h).1

pub nothing_left : {A : Type 0} (xs : List A) (i : ℕ) → length xs ≤ i → drop i xs ≡ []
nothing_left xs i h = drop_all i xs h
