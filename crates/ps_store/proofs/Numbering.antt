-- The numbers of all data queries, from those of each.
use Rattle.std.proofs.Common.{◌≡◌, ℕ, ◌+◌, ◌<◌, List, [], ◌∷◌, length, drop, get_or, sym, ap, ◌∙◌, subst, inl, inr}
use Rattle.std.specs.List.{AllByRecursion}
use Rattle.std.proofs.lemmas.List.{drop_more}
use Rattle.ps_definitions.specs.declared.definitions.Definition.{Definition}
use Rattle.ps_definitions.specs.declared.queries.Planned.{Planned}
use Rattle.ps_data.proofs.Members.{Has, contains_has}
use Rattle.ps_store.specs.Laws.{HaveNumbers}
use Rattle.ps_store.specs.Numbers.{IsNumbered, AreNumbered}

before : {X : Type 0} (P : X → Type 0) (xs : List X) (i : ℕ) (x : X) → i < length xs → x ≡ get_or xs i x → P x → (AllByRecursion P (drop i xs) → AllByRecursion P xs) → AllByRecursion P (drop (i + 1) xs) → AllByRecursion P xs
before P xs i x within is holds all rest = all (subst (λ ys. AllByRecursion P ys) (sym (drop_more xs i x within ∙ ap (λ y. y ∷ drop (i + 1) xs) (sym is))) (holds, rest))

pub numbered_before : (xs : List Planned) (i : ℕ) (x : Planned) → i < length xs → x ≡ get_or xs i x → IsNumbered x → (AllByRecursion IsNumbered (drop i xs) → AllByRecursion IsNumbered xs)
    → AllByRecursion IsNumbered (drop (i + 1) xs) → AllByRecursion IsNumbered xs
numbered_before xs i x within is holds all rest = before IsNumbered xs i x within is holds all rest

pub definitions_before : (xs : List Definition) (i : ℕ) (x : Definition) → i < length xs → x ≡ get_or xs i x → AllByRecursion IsNumbered x.queries → (AllByRecursion AreNumbered (drop i xs) → AllByRecursion AreNumbered xs)
    → AllByRecursion AreNumbered (drop (i + 1) xs) → AllByRecursion AreNumbered xs
definitions_before xs i x within is holds all rest = before AreNumbered xs i x within is holds all rest

all_of : {X : Type 0} (P : X → Type 0) (xs : List X) (x : X) → AllByRecursion P xs → Has xs x → P x
all_of P [] x h i = absurd i
all_of P (y ∷ xs) x h i = elim i [ inl e ↦ subst P e h.0 | inr t ↦ all_of P xs x h.1 t ]

pub have_numbers_of : (definitions : List Definition) → AllByRecursion AreNumbered definitions → HaveNumbers definitions
have_numbers_of definitions all definition planned i j =
    all_of IsNumbered definition.queries planned (all_of AreNumbered definitions definition all (contains_has definitions definition i)) (contains_has definition.queries planned j)
