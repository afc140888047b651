-- Names in the order of their bytes, each once.
use Rattle.std.proofs.Common.{ℕ, List, [], ◌∷◌, inl, inr}
use Rattle.std.specs.Ordering.{nat_cmp}
use Rattle.std.specs.Cmp.Lexicographic.{slice_cmp, nat_list_cmp_total}
use Rattle.std.specs.declared.cmp.Ordering.{Ordering}
use Rattle.std.proofs.lemmas.Map.Lookups.{exact_bytes}
use Rattle.ps_data.proofs.Members.{Has}
use Rattle.ps_data.proofs.Rising.{Rises, insert_has, from_insert, insert_rises}
use Rattle.ps_definitions.specs.Buckets.{in_order}

abbrev pub name_cmp : List ℕ → List ℕ → Ordering
name_cmp = slice_cmp nat_cmp

pub in_order_rises : (names : List (List ℕ)) → Rises (slice_cmp nat_cmp) (in_order names)
in_order_rises [] = tt
in_order_rises (n ∷ ns) = insert_rises name_cmp nat_list_cmp_total exact_bytes (in_order ns) n (in_order_rises ns)

pub has_in_order : (names : List (List ℕ)) (q : List ℕ) → Has names q → Has (in_order names) q
has_in_order [] q h = absurd h
has_in_order (n ∷ ns) q h = insert_has name_cmp exact_bytes (in_order ns) n q (elim h [ inl e ↦ inl e | inr t ↦ inr (has_in_order ns q t) ])

pub from_in_order : (names : List (List ℕ)) (q : List ℕ) → Has (in_order names) q → Has names q
from_in_order [] q h = absurd h
from_in_order (n ∷ ns) q h = elim (from_insert name_cmp exact_bytes (in_order ns) n q h) [ inl e ↦ inl e | inr t ↦ inr (from_in_order ns q t) ]
