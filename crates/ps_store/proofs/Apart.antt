-- Two rows of a source never have one moment.
use Rattle.std.proofs.Common.{◌≡◌, ℕ, ◌+◌, Bool, true, false, cond, List, [], ◌∷◌, length, Option, Some, None, option_map, Ordering, Less, Equal, Greater, refl, sym, ap, ◌∙◌, arith}
use Rattle.std.specs.Prelude.{T}
use Rattle.std.specs.Ordering.{is_eq, eq_by_cmp}
use Rattle.std.specs.FinMap.Entries.{find, is_sorted}
use Rattle.std.proofs.lemmas.Option.{same_Some}
use Rattle.ps_data.specs.declared.columns.Column.{Column}
use Rattle.ps_rows.specs.Source.{Key, key_cmp, Version, Source, after_row}
use Rattle.ps_rows.specs.Keys.{keys_exact, find-after_row, sorted-after_row}
use Rattle.ps_definitions.specs.declared.definitions.Definition.{Definition}
use Rattle.ps_store.specs.Originals.{Timed, key_of, after, change_ops}
use Rattle.ps_store.specs.Steps.{Step, source_after}
use Rattle.ps_store.proofs.Moments.{IsEarlier, IsReached}
use Rattle.ps_store.proofs.Stepping.{StepsFrom}

-- all rows are older than a moment, and no two have one moment
pub record HaveMoments (position index : ℕ) (source : Source) : Type 0 where
  pub older : (k : Key) (v : Version) → find key_cmp k source ≡ Some v → IsEarlier v position index
  pub differ : (k l : Key) (v w : Version) → find key_cmp k source ≡ Some v → find key_cmp l source ≡ Some w → v.position ≡ w.position → v.index ≡ w.index → k ≡ l

not_older_itself : (position index : ℕ) (v w : Version) → IsEarlier v position index → w.position ≡ position → w.index ≡ index → v.position ≡ w.position → v.index ≡ w.index → ⊥
not_older_itself position index v w h p i e f = let less = h.before (e ∙ p) in omega (arith, less, i, f)

same_key : (a b : Key) → eq_by_cmp key_cmp a b ≡ true → a ≡ b
same_key a b h = keys_exact a b (equal (key_cmp a b) h) where
  equal : (o : Ordering) → is_eq o ≡ true → o ≡ Equal
  equal Less p = cc
  equal Equal p = refl
  equal Greater p = cc

-- a row that is found after a change is the changed one, with its moment, or it was there before
data Found (position index : ℕ) (key : Key) (source : Source) (k : Key) (v : Version) : Type 0 where
  changed : k ≡ key → v.position ≡ position → v.index ≡ index → Found position index key source k v
  before : find key_cmp k source ≡ Some v → Found position index key source k v

version_of : (position index : ℕ) (row : Option (List Column)) (v : Version) → option_map (λ columns. record { columns = columns; position = position; index = index }) row ≡ Some v → (v.position ≡ position) × (v.index ≡ index)
version_of position index None v h = absurd (cc)
version_of position index (Some columns) v h =
    let e : record { columns = columns; position = position; index = index } ≡ v = same_Some (record { columns = columns; position = position; index = index }) v h in
    (sym (ap (λ (x : Version). x.position) e), sym (ap (λ (x : Version). x.index) e))

found_after : (position index : ℕ) (key : Key) (row : Option (List Column)) (source : Source) (k : Key) (v : Version) → find key_cmp k (after_row position index key row source) ≡ Some v → Found position index key source k v
found_after position index key row source k v h = go (eq_by_cmp key_cmp k key) refl (sym (find-after_row position index key row source k) ∙ h) where
  go : (b : Bool) → eq_by_cmp key_cmp k key ≡ b → cond b (option_map (λ columns. record { columns = columns; position = position; index = index }) row) (find key_cmp k source) ≡ Some v → Found position index key source k v
  go true e g = let m = version_of position index row v g in changed (same_key k key e) m.0 m.1
  go false e g = before g

pub moments_after : (position index : ℕ) (key : Key) (row : Option (List Column)) (source : Source) → HaveMoments position index source → HaveMoments position (index + 1) (after_row position index key row source)
moments_after position index key row source have = record {
  older = λ k v h. older_of k v (found_after position index key row source k v h);
  differ = λ k l v w h g p i. both_of k l v w (found_after position index key row source k v h) (found_after position index key row source l w g) p i;
} where
  older_of : (k : Key) (v : Version) → Found position index key source k v → IsEarlier v position (index + 1)
  older_of k v (changed is p i) = record { within = omega (arith, p); before = λ e. omega (arith, i) }
  older_of k v (before h) = let r = have.older k v h in record { within = r.within; before = λ e. let less = r.before e in omega (arith, less) }

  both_of : (k l : Key) (v w : Version) → Found position index key source k v → Found position index key source l w → v.position ≡ w.position → v.index ≡ w.index → k ≡ l
  both_of k l v w (changed is p i) (changed it q j) e f = is ∙ sym it
  both_of k l v w (changed is p i) (before g) e f = absurd (not_older_itself position index w v (have.older l w g) p i (sym e) (sym f))
  both_of k l v w (before h) (changed it q j) e f = absurd (not_older_itself position index v w (have.older k v h) q j e f)
  both_of k l v w (before h) (before g) e f = have.differ k l v w h g e f

-- a later moment
pub moments_past : (position index later place : ℕ) (source : Source) → IsReached position index later place → HaveMoments position index source → HaveMoments later place source
moments_past position index later place source reached have = record {
  older = λ k v h.
      let r = have.older k v h in record {
        within = omega (arith, r.within, reached.within);
        before = λ e.
            let same : position ≡ later = omega (arith, e, r.within, reached.within) in
            let less = r.before (e ∙ sym same) in
            let upto = reached.before same in
            omega (arith, less, upto);
      };
  differ = have.differ;
}

moments_steps : (definitions : List Definition) (next position index : ℕ) (source : Source) (ss : List Step) → StepsFrom definitions source next position index ss → HaveMoments position index source
    → (p : ℕ) × (i : ℕ) × HaveMoments p i (source_after source ss)
moments_steps definitions next position index source [] h have = (position, index, have)
moments_steps definitions next position index source (s ∷ ss) h have =
    let t : Timed = s.timed in
    moments_steps definitions (s.first + length (change_ops definitions source s.first t)) t.position (t.index + 1) (after source t) ss h.2
    (moments_after t.position t.index (key_of t) t.change.row source (moments_past position index t.position t.index source h.1 have))

pub moments_of_none : HaveMoments 0 0 []
moments_of_none = record { older = λ k v h. absurd (cc); differ = λ k l v w h g p i. absurd (cc) }

-- two rows that stand have different moments
pub moments_tell_rows : (definitions : List Definition) (ss : List Step) → StepsFrom definitions [] 0 0 0 ss → (k l : Key) (v w : Version) → find key_cmp k (source_after [] ss) ≡ Some v → find key_cmp l (source_after [] ss) ≡ Some w
    → v.position ≡ w.position → v.index ≡ w.index → k ≡ l
moments_tell_rows definitions ss rise k l v w h g p i =
    let m = moments_steps definitions 0 0 0 [] ss rise moments_of_none in
    m.2.differ k l v w h g p i

-- the source of steps is in the order of its keys
pub sorted_steps : (source : Source) (ss : List Step) → T (is_sorted key_cmp source) → T (is_sorted key_cmp (source_after source ss))
sorted_steps source [] h = h
sorted_steps source (s ∷ ss) h = sorted_steps (after source s.timed) ss (sorted-after_row s.timed.position s.timed.index (key_of s.timed) s.timed.change.row source h)

pub in_order : (ss : List Step) → T (is_sorted key_cmp (source_after [] ss))
in_order ss = sorted_steps [] ss tt
