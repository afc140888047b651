-- The values of a vector by the names of its parameters.
use Rattle.std.proofs.Common.{◌≡◌, ℕ, suc, true, false, List, [], ◌∷◌, length, refl, sym, ap, ◌∙◌, map, subst, arith, inl, inr}
use Rattle.std.specs.Prelude.{◌||◌, if◌then◌else◌, bytes_eq}
use Rattle.std.specs.List.{AllZip}
use Rattle.std.proofs.lemmas.Bool.{or_parts, false_from_ne_true}
use Rattle.std.proofs.lemmas.Slice.Eq.{bytes_eq-Decides}
use Rattle.ps_data.specs.declared.values.Value.{Value}
use Rattle.ps_definitions.specs.Names.{is_in, has_repeated}
use Rattle.ps_definitions.specs.Vectors.{vector_at}
use Rattle.ps_data.proofs.Members.{Has, none_has}

-- two lists hold a fact of each pair
pub zip_where : {A B : Type 0} (R S : A → B → Type 0) (xs : List A) (ys : List B) → ((x : A) (y : B) → Has xs x → R x y → S x y) → AllZip R xs ys → AllZip S xs ys
zip_where R S [] [] f h = tt
zip_where R S [] (y ∷ ys) f h = h
zip_where R S (x ∷ xs) [] f h = h
zip_where R S (x ∷ xs) (y ∷ ys) f h = (f x y (inl refl) h.0, zip_where R S xs ys (λ a b i. f a b (inr i)) h.1)

pub zip_length : {A B : Type 0} (R : A → B → Type 0) (xs : List A) (ys : List B) → AllZip R xs ys → length ys ≡ length xs
zip_length R [] [] h = refl
zip_length R [] (y ∷ ys) h = absurd h
zip_length R (x ∷ xs) [] h = absurd h
zip_length R (x ∷ xs) (y ∷ ys) h = ap suc (zip_length R xs ys h.1)

-- a list of lists, one for each name
pub zip_map : {A C : Type 0} {B : Type 0} (R : C → B → Type 0) (f : A → C) (xs : List A) (ys : List B) → AllZip (λ x y. R (f x) y) xs ys → AllZip R (map f xs) ys
zip_map R f [] [] h = tt
zip_map R f [] (y ∷ ys) h = h
zip_map R f (x ∷ xs) [] h = h
zip_map R f (x ∷ xs) (y ∷ ys) h = (h.0, zip_map R f xs ys h.1)

pub zip_unmap : {A C : Type 0} {B : Type 0} (R : C → B → Type 0) (f : A → C) (xs : List A) (ys : List B) → AllZip R (map f xs) ys → AllZip (λ x y. R (f x) y) xs ys
zip_unmap R f [] [] h = tt
zip_unmap R f [] (y ∷ ys) h = h
zip_unmap R f (x ∷ xs) [] h = h
zip_unmap R f (x ∷ xs) (y ∷ ys) h = (h.0, zip_unmap R f xs ys h.1)

-- of two facts that hold of each pair, what follows for each name
pub zip_both : {A B : Type 0} (R S : A → B → Type 0) (P : A → Type 0) (xs : List A) (ys : List B) → ((x : A) (y : B) → R x y → S x y → P x) → AllZip R xs ys → AllZip S xs ys → (x : A) → Has xs x → P x
zip_both R S P [] ys f h k x i = absurd i
zip_both R S P (a ∷ xs) [] f h k x i = absurd h
zip_both R S P (a ∷ xs) (b ∷ ys) f h k x i = elim i [
  | inl e ↦ subst P e (f a b h.0 k.0)
  | inr t ↦ zip_both R S P xs ys f h.1 k.1 x t
]

pub same_name : (a b : List ℕ) → bytes_eq a b ≡ true → a ≡ b
same_name a b = (bytes_eq-Decides a b).0

pub name_same : (a b : List ℕ) → a ≡ b → bytes_eq a b ≡ true
name_same a b = (bytes_eq-Decides a b).1

pub in_names : (names : List (List ℕ)) (name : List ℕ) → is_in name names ≡ true → Has names name
in_names [] name h = absurd (cc)
in_names (n ∷ ns) name h = elim (bytes_eq n name) as (λ b. bytes_eq n name ≡ b → (b || is_in name ns) ≡ true → Has (n ∷ ns) name) [
  | true ↦ λ e i. inl (same_name n name e)
  | false ↦ λ e i. inr (in_names ns name i)
] refl h

-- behind a name that does not stand again, the others have their own values
other_name : (n : List ℕ) (ns : List (List ℕ)) (m : List ℕ) → is_in n ns ≡ false → Has ns m → bytes_eq n m ≡ false
other_name n ns m h i = false_from_ne_true (bytes_eq n m) (λ e.
    let c : bytes_eq m n ≡ false = none_has (λ other. bytes_eq other n) ns m h i in
    let t : bytes_eq m n ≡ true = name_same m n (sym (same_name n m e)) in
    let bad : true ≡ false = sym t ∙ c in cc)

-- each name has its value
pub each_at : (names : List (List ℕ)) (values : List Value) → has_repeated names ≡ false → length values ≡ length names → AllZip (λ (n : List ℕ) (v : Value). vector_at names values n ≡ v) names values
each_at [] [] h e = tt
each_at [] (v ∷ vs) h e = absurd (omega (arith, e))
each_at (n ∷ ns) [] h e = absurd (omega (arith, e))
each_at (n ∷ ns) (v ∷ vs) h e =
    let parts = or_parts (is_in n ns) (has_repeated ns) h in
    let rest = each_at ns vs parts.1 (omega (arith, e)) in (
      ap (λ b. if b then v else vector_at ns vs n) (name_same n n refl),
      zip_where (λ (m : List ℕ) (w : Value). vector_at ns vs m ≡ w) (λ (m : List ℕ) (w : Value). vector_at (n ∷ ns) (v ∷ vs) m ≡ w) ns vs
          (λ m w i s. ap (λ b. if b then v else vector_at ns vs m) (other_name n ns m parts.0 i) ∙ s) rest,
    )
