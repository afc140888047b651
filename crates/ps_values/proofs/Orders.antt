-- The order of values is total, and ties only values that are the same.
use Rattle.std.proofs.Common.{◌≡◌, ◌≢◌, ◌⊎◌, inl, inr, Ordering, Less, Equal, Greater, refl, ap, ◌∙◌, subst}
use Rattle.std.specs.Ordering.{ordering_reverse}
use Rattle.std.proofs.lemmas.Cmp.{int_cmp_total, nat_list_cmp_total, tied_itself}
use Rattle.std.proofs.lemmas.Map.Lookups.{exact_signed, exact_bytes}
use Rattle.ps_data.specs.declared.values.Value.{Value}
use Rattle.ps_data.specs.declared.values.Value.TheVariants.{Null, Int, Text}
use Rattle.ps_data.specs.declared.values.Truth.TheVariants.{True}
use Rattle.ps_data.specs.Values.{compare_values, equal_by, equal_sql}
use Rattle.ps_values.specs.Laws.{IsAntisymmetric, IsTransitive, IsTotal, TiesTheSame, IsEqualWherePresent}

pub antisymmetric : IsAntisymmetric
antisymmetric Null Null = refl
antisymmetric Null (Int n) = refl
antisymmetric Null (Text t) = refl
antisymmetric (Int m) Null = refl
antisymmetric (Int m) (Int n) = int_cmp_total.antisymm n m
antisymmetric (Int m) (Text t) = refl
antisymmetric (Text s) Null = refl
antisymmetric (Text s) (Int n) = refl
antisymmetric (Text s) (Text t) = nat_list_cmp_total.antisymm t s

pub transitive : IsTransitive
transitive Null Null Null h k = cc
transitive Null (Int n) Null h k = cc
transitive Null (Text t) Null h k = cc
transitive Null b (Int o) h k = refl
transitive Null b (Text u) h k = refl
transitive (Int m) Null c h k = cc
transitive (Int m) (Int n) Null h k = cc
transitive (Int m) (Int n) (Int o) h k = int_cmp_total.trans m n o h k
transitive (Int m) (Int n) (Text u) h k = refl
transitive (Int m) (Text t) Null h k = cc
transitive (Int m) (Text t) (Int o) h k = cc
transitive (Int m) (Text t) (Text u) h k = refl
transitive (Text s) Null c h k = cc
transitive (Text s) (Int n) c h k = cc
transitive (Text s) (Text t) Null h k = cc
transitive (Text s) (Text t) (Int o) h k = cc
transitive (Text s) (Text t) (Text u) h k = nat_list_cmp_total.trans s t u h k

same : (a b : Value) → compare_values a b ≡ Equal → a ≡ b
same Null Null h = refl
same Null (Int n) h = cc
same Null (Text t) h = cc
same (Int m) Null h = cc
same (Int m) (Int n) h = ap Int (exact_signed m n h)
same (Int m) (Text t) h = cc
same (Text s) Null h = cc
same (Text s) (Int n) h = cc
same (Text s) (Text t) h = ap Text (exact_bytes s t h)

itself : (a : Value) → compare_values a a ≡ Equal
itself Null = refl
itself (Int n) = tied_itself int_cmp_total n
itself (Text t) = tied_itself nat_list_cmp_total t

pub ties_the_same : TiesTheSame
ties_the_same a b = (same a b, λ e. subst (λ c. compare_values a c ≡ Equal) e (itself a))

by_order : (a b : Value) (o : Ordering) → compare_values a b ≡ o → (compare_values a b ≡ Less) ⊎ ((a ≡ b) ⊎ (compare_values b a ≡ Less))
by_order a b Less h = inl h
by_order a b Equal h = inr (inl (same a b h))
by_order a b Greater h = inr (inr (antisymmetric a b ∙ ap ordering_reverse h))

pub total : IsTotal
total a b = by_order a b (compare_values a b) refl

tied : (o : Ordering) → equal_by o ≡ True → o ≡ Equal
tied Less h = cc
tied Equal h = refl
tied Greater h = cc

present : (a b : Value) → equal_sql a b ≡ True → (a ≢ Null) × (b ≢ Null) × (a ≡ b)
present Null b h = cc
present (Int m) Null h = cc
present (Int m) (Int n) h = (λ e. cc, λ e. cc, same (Int m) (Int n) (tied _ h))
present (Int m) (Text t) h = cc
present (Text s) Null h = cc
present (Text s) (Int n) h = cc
present (Text s) (Text t) h = (λ e. cc, λ e. cc, same (Text s) (Text t) (tied _ h))

equal_itself : (a : Value) → a ≢ Null → equal_sql a a ≡ True
equal_itself Null there = absurd (there refl)
equal_itself (Int n) there = ap equal_by (itself (Int n))
equal_itself (Text t) there = ap equal_by (itself (Text t))

pub equal_where_present : IsEqualWherePresent
equal_where_present a b = (present a b, λ h. subst (λ c. equal_sql a c ≡ True) h.2 (equal_itself a h.0))
