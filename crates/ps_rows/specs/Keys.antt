-- What keys keep: they are in a total order, the source stands in it, and a change is seen at its own key alone.
use Rattle.std.proofs.Common.{◌≡◌, ℕ, ◌+◌, Bool, true, false, not, cond, List, [], ◌∷◌, Option, Some, None, option_map, refl, sym, ap, ◌∙◌}
use Rattle.std.specs.Prelude.{T}
use Rattle.std.specs.Ordering.{nat_cmp, is_eq, eq_by_cmp}
use Rattle.std.specs.Cmp.{IsTotalOrder, on_total, then_total, alike_right, eq_by_cmp_equiv}
use Rattle.std.specs.Cmp.Lexicographic.{slice_cmp, nat_list_cmp_total}
use Rattle.std.specs.FinMap.Entries.{find, is_sorted, find-put, find-where_key, is_sorted-put, is_sorted-where_key}
use Rattle.std.proofs.lemmas.Map.Lookups.{CmpEqualImpliesEq, exact_bytes, exact_pairs}
use Rattle.ps_data.specs.declared.columns.Column.{Column}
use Rattle.ps_rows.specs.declared.changes.Change.{Change}
use Rattle.ps_rows.specs.declared.changes.Transaction.{Transaction}
use Rattle.ps_rows.specs.Source.{Key, key_cmp, Source, after_row, after_changes, after_transactions}

-- keys are in a total order, which tells all of them apart
pub keys_total : IsTotalOrder key_cmp
keys_total = then_total (on_total (λ (k : Key). k.0) nat_list_cmp_total) (on_total (λ (k : Key). k.1) nat_list_cmp_total)

pub keys_exact : CmpEqualImpliesEq key_cmp
keys_exact = exact_pairs (slice_cmp nat_cmp) (slice_cmp nat_cmp) exact_bytes exact_bytes

turned : {A : Type 0} (b : Bool) (x y : A) → cond (not b) x y ≡ cond b y x
turned true x y = refl
turned false x y = refl

-- what stands at a key after a row's change
pub find-after_row : (position index : ℕ) (key : Key) (row : Option (List Column)) (source : Source) (q : Key)
    → find key_cmp q (after_row position index key row source) ≡ cond (eq_by_cmp key_cmp q key) (option_map (λ columns. record { columns = columns; position = position; index = index }) row) (find key_cmp q source)
find-after_row position index key (Some columns) source q = find-put key_cmp keys_total q key (record { columns = columns; position = position; index = index }) source
find-after_row position index key None source q =
    find-where_key key_cmp (λ other. not (eq_by_cmp key_cmp key other)) q (λ x t. ap (λ r. not (is_eq r)) (sym (alike_right keys_total q x key t))) source
    ∙ turned (eq_by_cmp key_cmp key q) _ _ ∙ ap (λ b. cond b None (find key_cmp q source)) ((eq_by_cmp_equiv keys_total).symm key q)

pub sorted-after_row : (position index : ℕ) (key : Key) (row : Option (List Column)) (source : Source) → T (is_sorted key_cmp source) → T (is_sorted key_cmp (after_row position index key row source))
sorted-after_row position index key (Some columns) source h = is_sorted-put key_cmp keys_total key (record { columns = columns; position = position; index = index }) source h
sorted-after_row position index key None source h = is_sorted-where_key key_cmp (λ other. not (eq_by_cmp key_cmp key other)) source h

pub sorted-after_changes : (position index : ℕ) (changes : List Change) (source : Source) → T (is_sorted key_cmp source) → T (is_sorted key_cmp (after_changes position index changes source))
sorted-after_changes position index [] source h = h
sorted-after_changes position index (change ∷ changes) source h =
    sorted-after_changes position (index + 1) changes _ (sorted-after_row position index (change.table, change.id) change.row source h)

pub sorted-after_transactions : (transactions : List Transaction) (source : Source) → T (is_sorted key_cmp source) → T (is_sorted key_cmp (after_transactions transactions source))
sorted-after_transactions [] source h = h
sorted-after_transactions (transaction ∷ transactions) source h =
    sorted-after_transactions transactions _ (sorted-after_changes transaction.position.0 0 transaction.changes source h)
