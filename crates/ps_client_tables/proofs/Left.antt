-- What is left of a table when the rows that pass a test are taken out by their rowids.
use Rattle.std.proofs.Common.{◌≡◌, inl, inr, ℤ, Bool, true, false, not, ◌||◌, cond, List, [], ◌∷◌, filter, refl, sym, ap, ◌∙◌, subst, Ordering, Less, Equal, Greater}
use Rattle.std.specs.List.{list_any}
use Rattle.std.specs.Ordering.{is_eq}
use Rattle.std.proofs.lemmas.Cmp.{tied_itself}
use Rattle.sqlite_value.specs.declared.value.Value.TheVariants.{Int}
use Rattle.sqlite_value.specs.Order.{Row, value_cmp}
use Rattle.sqlite_value.proofs.OrderLemmas.{value_cmp_total}
use Rattle.sqlite_trees.specs.Tree.{rowid, has_rowid, without_rowid}
use Rattle.sqlite_rules.specs.Lists.{Has}
use Rattle.sqlite_rules.specs.Edit.{id_in, without_all}
use Rattle.sqlite_rules.specs.Calls.{ids_of}
use Rattle.sqlite_rules.proofs.ListLemmas.{all_has, some_has, some_from}
use Rattle.sqlite_rules.proofs.ProbeLemmas.{has_mapped, mapped_has}
use Rattle.sqlite_rules.proofs.PlaceLemmas.{tied_same}
use Rattle.sqlite_rules.proofs.TableLemmas.{int_is}
use Rattle.ps_client_tables.specs.Tables.{AreRows, less}

-- two tests are one where each implies the other
pub same_test : (a b : Bool) → (a ≡ true → b ≡ true) → (b ≡ true → a ≡ true) → a ≡ b
same_test true b f g = sym (f refl)
same_test false true f g = g refl
same_test false false f g = refl

-- tests that agree on the rows keep the same
pub filter_alike : {X : Type 0} (p q : X → Bool) (xs : List X) → ((x : X) → Has xs x → p x ≡ q x) → filter p xs ≡ filter q xs
filter_alike p q [] same = refl
filter_alike {X} p q (x ∷ xs) same =
    ap (λ b. cond b (x ∷ filter p xs) (filter p xs)) (same x (inl refl)) ∙ ap (λ (ys : List X). cond (q x) (x ∷ ys) ys) (filter_alike p q xs (λ y h. same y (inr h)))

pub filter_twice : {X : Type 0} (p q : X → Bool) (xs : List X) → filter (λ x. not (q x)) (filter (λ x. not (p x)) xs) ≡ filter (λ x. not (p x || q x)) xs
filter_twice p q [] = refl
filter_twice {X} p q (x ∷ xs) =
    elim (p x) as (λ b. filter (λ y. not (q y)) (cond (not b) (x ∷ filter (λ y. not (p y)) xs) (filter (λ y. not (p y)) xs)) ≡ cond (not (b || q x)) (x ∷ filter (λ y. not (p y || q y)) xs) (filter (λ y. not (p y || q y)) xs)) [
      | true ↦ filter_twice p q xs
      | false ↦ ap (λ (ys : List X). cond (not (q x)) (x ∷ ys) ys) (filter_twice p q xs)
    ]

pub filter_none : {X : Type 0} (xs : List X) → xs ≡ filter (λ x. not false) xs
filter_none [] = refl
filter_none {X} (x ∷ xs) = ap (λ (ys : List X). x ∷ ys) (filter_none xs)

-- rows that go by their rowids, one after another, go all at once
pub without_each : (ids : List ℤ) (rows : List Row) → without_all rows ids ≡ less (λ r. list_any (λ id. has_rowid id r) ids) rows
without_each [] rows = filter_none rows
without_each (id ∷ ids) rows = without_each ids (without_rowid id rows) ∙ filter_twice (has_rowid id) (λ r. list_any (λ i. has_rowid i r) ids) rows

tied : (o : Ordering) → is_eq o ≡ true → o ≡ Equal
tied Less h = absurd (cc)
tied Equal h = refl
tied Greater h = absurd (cc)

-- the rowids that were found are those of the rows that pass the test, and no other
pub record Finds (test : Row → Bool) (rows found : List Row) : Type 0 where
  pub sound : (x : Row) → Has found x → (r : Row) × Has rows r × (test r ≡ true) × (x ≡ rowid r ∷ [])
  pub complete : (r : Row) → Has rows r → test r ≡ true → Has found (rowid r ∷ [])

-- so without them the others are left
pub left_over : (test : Row → Bool) (rows found : List Row) → AreRows rows → Finds test rows found → without_all rows (ids_of found) ≡ less test rows
left_over test rows found in_order finds =
    without_each (ids_of found) rows ∙ filter_alike _ _ rows (λ r h. ap not (same_test _ _ (gone r h) (goes r h)))
  where
    gone : (r : Row) → Has rows r → list_any (λ id. has_rowid id r) (ids_of found) ≡ true → test r ≡ true
    gone r h taken =
        let some = some_has (λ id. has_rowid id r) (ids_of found) taken in
        let from = has_mapped (λ x. id_in (rowid x)) found some.0 some.1 in
        let it = finds.sound from.0 from.1 in
        let same : some.0 ≡ id_in (rowid it.0) = from.2 ∙ ap (λ x. id_in (rowid x)) it.3 in
        let whole : rowid it.0 ≡ Int (id_in (rowid it.0)) = int_is (rowid it.0) (all_has _ rows it.0 in_order.1 it.1) in
        let tie : value_cmp (rowid r) (rowid it.0) ≡ Equal = subst (λ v. value_cmp (rowid r) v ≡ Equal) (ap Int same ∙ sym whole) (tied _ some.2) in
        ap test (tied_same rows r it.0 in_order.0 h it.1 tie) ∙ it.2

    goes : (r : Row) → Has rows r → test r ≡ true → list_any (λ id. has_rowid id r) (ids_of found) ≡ true
    goes r h passes =
        let whole : rowid r ≡ Int (id_in (rowid r)) = int_is (rowid r) (all_has _ rows r in_order.1 h) in
        let tie : value_cmp (rowid r) (Int (id_in (rowid r))) ≡ Equal = subst (λ v. value_cmp (rowid r) v ≡ Equal) whole (tied_itself value_cmp_total (rowid r)) in
        some_from (λ id. has_rowid id r) (ids_of found) (id_in (rowid r)) (mapped_has (λ x. id_in (rowid x)) found (rowid r ∷ []) (finds.complete r h passes)) (ap is_eq tie)
