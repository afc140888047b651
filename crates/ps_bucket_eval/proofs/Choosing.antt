-- What the choices of one value of each list are.
use Rattle.std.proofs.Common.{◌≡◌, ℕ, List, [], ◌∷◌, ◌++◌, map, refl, sym, ap, ◌∙◌, subst, append_assoc, inl, inr}
use Rattle.std.specs.Prelude.{flat_map}
use Rattle.std.specs.List.{AllZip}
use Rattle.ps_data.specs.declared.values.Value.{Value}
use Rattle.ps_definitions.specs.Buckets.{bucket_name_of}
use Rattle.ps_bucket_eval.specs.Vectors.{choices}
use Rattle.ps_bucket_eval.specs.Solving.{names_from}
use Rattle.ps_data.proofs.Members.{Has, has_map, from_map, has_flat, from_flat}

-- each value is in its list
abbrev pub InEach : List (List Value) → List Value → Type 0
InEach lists values = AllZip (λ (list : List Value) (value : Value). Has list value) lists values

pub has_choices : (lists : List (List Value)) (values : List Value) → InEach lists values → Has (choices lists) values
has_choices [] [] h = inl refl
has_choices [] (v ∷ vs) h = absurd h
has_choices (l ∷ ls) [] h = absurd h
has_choices (l ∷ ls) (v ∷ vs) h =
    has_flat (λ (value : Value). map (λ (others : List Value). value ∷ others) (choices ls)) l v (v ∷ vs) h.0
    (has_map (λ (others : List Value). v ∷ others) (choices ls) vs (has_choices ls vs h.1))

pub from_choices : (lists : List (List Value)) (values : List Value) → Has (choices lists) values → InEach lists values
from_choices [] [] h = tt
from_choices [] (v ∷ vs) h = elim h [ inl e ↦ absurd (cc) | inr n ↦ absurd n ]
from_choices (l ∷ ls) values h =
    let a = from_flat (λ (value : Value). map (λ (others : List Value). value ∷ others) (choices ls)) l values h in
    let b = from_map (λ (others : List Value). a.0 ∷ others) (choices ls) values a.2 in
    subst (InEach (l ∷ ls)) b.2 (a.1, from_choices ls b.0 b.1)

-- ---- the names of choices

map_append : {Y Z : Type 0} (g : Y → Z) (xs ys : List Y) → map g (xs ++ ys) ≡ map g xs ++ map g ys
map_append g [] ys = refl
map_append g (x ∷ xs) ys = ap (λ r. g x ∷ r) (map_append g xs ys)

map_flat : {X Y Z : Type 0} (g : Y → Z) (f : X → List Y) (xs : List X) → map g (flat_map f xs) ≡ flat_map (λ x. map g (f x)) xs
map_flat g f [] = refl
map_flat g f (x ∷ xs) = map_append g (f x) (flat_map f xs) ∙ ap (λ r. map g (f x) ++ r) (map_flat g f xs)

map_map : {X Y Z : Type 0} (g : Y → Z) (f : X → Y) (xs : List X) → map g (map f xs) ≡ map (λ x. g (f x)) xs
map_map g f [] = refl
map_map g f (x ∷ xs) = ap (λ r. g (f x) ∷ r) (map_map g f xs)

map_each : {X Y : Type 0} (f g : X → Y) → ((x : X) → f x ≡ g x) → (xs : List X) → map f xs ≡ map g xs
map_each f g same [] = refl
map_each f g same (x ∷ xs) = λ i. same x i ∷ map_each f g same xs i

flat_each : {X Y : Type 0} (f g : X → List Y) → ((x : X) → f x ≡ g x) → (xs : List X) → flat_map f xs ≡ flat_map g xs
flat_each f g same [] = refl
flat_each f g same (x ∷ xs) = λ i. same x i ++ flat_each f g same xs i

append_nil : (xs : List Value) → xs ≡ xs ++ []
append_nil [] = refl
append_nil (x ∷ xs) = ap (λ r. x ∷ r) (append_nil xs)

pub names_of_choices : (definition : List ℕ) (chosen : List Value) (lists : List (List Value)) → names_from definition chosen lists ≡ map (λ (others : List Value). bucket_name_of definition (chosen ++ others)) (choices lists)
names_of_choices definition chosen [] = ap (λ (vs : List Value). bucket_name_of definition vs ∷ []) (append_nil chosen)
names_of_choices definition chosen (l ∷ ls) =
    flat_each (λ (value : Value). names_from definition (chosen ++ value ∷ []) ls) (λ (value : Value). map (λ (others : List Value). bucket_name_of definition (chosen ++ others)) (map (λ (others : List Value). value ∷ others) (choices ls)))
    (λ value. names_of_choices definition (chosen ++ value ∷ []) ls
    ∙ map_each (λ (others : List Value). bucket_name_of definition ((chosen ++ value ∷ []) ++ others)) (λ (others : List Value). bucket_name_of definition (chosen ++ value ∷ others)) (λ others. ap (bucket_name_of definition) (append_assoc chosen (value ∷ []) others)) (choices ls)
    ∙ sym (map_map (λ (others : List Value). bucket_name_of definition (chosen ++ others)) (λ (others : List Value). value ∷ others) (choices ls))) l
    ∙ sym (map_flat (λ (others : List Value). bucket_name_of definition (chosen ++ others)) (λ (value : Value). map (λ (others : List Value). value ∷ others) (choices ls)) l)
