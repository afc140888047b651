-- What a search by name finds in a row.
use Rattle.std.proofs.lemmas.Bool.{cases_lt}
use Rattle.std.proofs.Common.{inl, inr, ◌≡◌, ℕ, zero, suc, ◌<◌, Bool, true, false, cond, List, [], ◌∷◌, length, get_or, refl, sym, ap, ◌∙◌, subst, arith, add-one, Ok, Err}
use Rattle.std.specs.Prelude.{not, ◌&&◌}
use Rattle.std.specs.Fn.{Called, AlwaysReturns, ReturnsEach}
use denote.Param.Members.{Mut}
use Rattle.std.specs.Ordering.{nat_cmp, is_lt, is_eq, ordering_reverse, ordering_index}
use Rattle.std.specs.declared.cmp.Ordering.{Ordering}
use Rattle.std.specs.declared.cmp.Ordering.TheVariants.{Less, Equal, Greater}
use Rattle.std.specs.Cmp.Lexicographic.{slice_cmp}
use Rattle.std.specs.List.Sorted.{IsBinarySearchResult, IsNonDecreasingBy}
use Rattle.std.proofs.lemmas.Cmp.{nat_list_cmp_total}
use Rattle.std.proofs.lemmas.List.Sorted.{searchable_from_sorted}
use Rattle.std.proofs.lemmas.Map.Text.{is_eq-slice_cmp}
use Rattle.std.proofs.lemmas.Slice.Eq.{bytes_eq-Decides}
use Rattle.ps_data.specs.declared.columns.Column.{Column}
use Rattle.ps_data.specs.declared.values.Value.TheVariants.{Null}
use Rattle.ps_rows.specs.Rows.{is_id, rises_from, is_row}
use Rattle.ps_queries.specs.Meaning.{value_in}

left : (a b : Bool) → (a && b) ≡ true → a ≡ true
left true b h = refl
left false b h = h

right : (a b : Bool) → (a && b) ≡ true → b ≡ true
right true b h = h
right false b h = absurd (cc)

both : (a b : Bool) → a ≡ true → b ≡ true → (a && b) ≡ true
both a b g h = rw (g, h) refl

is_less : (o : Ordering) → is_lt o ≡ true → o ≡ Less
is_less Less h = refl
is_less Equal h = absurd (cc)
is_less Greater h = absurd (cc)

same_name : (a b : List ℕ) → slice_cmp nat_cmp a b ≡ Equal → a ≡ b
same_name a b h = (bytes_eq-Decides a b).0 (sym (is_eq-slice_cmp a b) ∙ ap is_eq h)

module _ (name : List ℕ) where
  tail_row : (cs : List Column) → rises_from name cs ≡ true → is_row cs ≡ true
  tail_row [] h = refl
  tail_row (c ∷ cs) h =
      let front = left (is_lt (slice_cmp nat_cmp name c.name) && not (is_id c.name)) (rises_from c.name cs) h in
      both (not (is_id c.name)) (rises_from c.name cs) (right (is_lt (slice_cmp nat_cmp name c.name)) (not (is_id c.name)) front) (right (is_lt (slice_cmp nat_cmp name c.name) && not (is_id c.name)) (rises_from c.name cs) h)

  head_above : (c : Column) (cs : List Column) → rises_from name (c ∷ cs) ≡ true → slice_cmp nat_cmp name c.name ≡ Less
  head_above c cs h = is_less _ (left (is_lt (slice_cmp nat_cmp name c.name)) (not (is_id c.name)) (left (is_lt (slice_cmp nat_cmp name c.name) && not (is_id c.name)) (rises_from c.name cs) h))

tail_rises : (c : Column) (cs : List Column) → is_row (c ∷ cs) ≡ true → rises_from c.name cs ≡ true
tail_rises c cs h = right (not (is_id c.name)) (rises_from c.name cs) h

next_rises : (name : List ℕ) (c : Column) (cs : List Column) → rises_from name (c ∷ cs) ≡ true → rises_from c.name cs ≡ true
next_rises name c cs h = right (is_lt (slice_cmp nat_cmp name c.name) && not (is_id c.name)) (rises_from c.name cs) h

-- each name of what rises from a name is above it
above : (name : List ℕ) (cs : List Column) (k : ℕ) (d : Column) → rises_from name cs ≡ true → k < length cs → slice_cmp nat_cmp name (get_or cs k d).name ≡ Less
above name [] k d h lt = absurd (omega arith)
above name (c ∷ cs) zero d h lt = head_above name c cs h
above name (c ∷ cs) (suc k) d h lt =
    let next : slice_cmp nat_cmp c.name (get_or cs k d).name ≡ Less = above c.name cs k d (next_rises name c cs h) (omega arith) in
    nat_list_cmp_total.trans name c.name (get_or cs k d).name (head_above name c cs h) next

-- the column at a place is the first of its name
pub value_at : (cs : List Column) (name : List ℕ) (k : ℕ) (d : Column) → is_row cs ≡ true → k < length cs → slice_cmp nat_cmp (get_or cs k d).name name ≡ Equal → value_in cs name ≡ (get_or cs k d).value
value_at [] name k d h lt e = absurd (omega arith)
value_at (c ∷ cs) name zero d h lt e = ap (λ b. cond b c.value (value_in cs name)) (sym (is_eq-slice_cmp c.name name) ∙ ap is_eq e)
value_at (c ∷ cs) name (suc k) d h lt e =
    let rises = tail_rises c cs h in
    let below : slice_cmp nat_cmp c.name name ≡ Less = subst (λ n. slice_cmp nat_cmp c.name n ≡ Less) (same_name (get_or cs k d).name name e) (above c.name cs k d rises (omega arith)) in
    ap (λ b. cond b c.value (value_in cs name)) (sym (is_eq-slice_cmp c.name name) ∙ ap is_eq below) ∙ value_at cs name k d (tail_row c.name cs rises) (omega arith) e

-- a name that no column has
pub no_value : (cs : List Column) (name : List ℕ) → ((k : ℕ) (d : Column) → k < length cs → is_eq (slice_cmp nat_cmp (get_or cs k d).name name) ≡ false) → value_in cs name ≡ Null
no_value [] name none = refl
no_value (c ∷ cs) name none =
    ap (λ b. cond b c.value (value_in cs name)) (sym (is_eq-slice_cmp c.name name) ∙ none 0 c (omega arith))
    ∙ no_value cs name (λ k d lt. none (suc k) d (omega arith))

follows : (cs : List Column) (k : ℕ) (d : Column) → is_row cs ≡ true → suc k < length cs → is_lt (slice_cmp nat_cmp (get_or cs (suc k) d).name (get_or cs k d).name) ≡ false
follows [] k d h lt = absurd (omega arith)
follows (c ∷ cs) zero d h lt = ap is_lt (nat_list_cmp_total.antisymm (get_or cs 0 d).name c.name ∙ ap ordering_reverse (above c.name cs 0 d (tail_rises c cs h) (omega arith)))
follows (c ∷ cs) (suc k) d h lt = follows cs k d (tail_row c.name cs (tail_rises c cs h)) (omega arith)

-- along a row the comparisons with a name rise
pub comparisons_rise : (cs : List Column) (name : List ℕ) → is_row cs ≡ true → IsNonDecreasingBy (λ c. ordering_index (slice_cmp nat_cmp c.name name)) cs
comparisons_rise cs name h = searchable_from_sorted nat_list_cmp_total (λ c. c.name) cs name (λ k d low lt. rw add-one (follows cs k d h (omega arith)))

-- what a binary search by name answers
pub found : (cs : List Column) (name : List ℕ) (at : ℕ) (d : Column) → is_row cs ≡ true → at < length cs → IsBinarySearchResult (λ c. slice_cmp nat_cmp c.name name) cs (Ok at) → value_in cs name ≡ (get_or cs at d).value
found cs name at d h lt equal = value_at cs name at d h lt (equal d)

pub missing : (cs : List Column) (name : List ℕ) (at : ℕ) → is_row cs ≡ true → IsBinarySearchResult (λ c. slice_cmp nat_cmp c.name name) cs (Err at) → value_in cs name ≡ Null
missing cs name at h parted = no_value cs name (λ k d lt. elim (cases_lt k at) [
  | inl below ↦ ap is_eq ((parted (comparisons_rise cs name h)).0 k d (omega arith) below)
  | inr from ↦ ap is_eq ((parted (comparisons_rise cs name h)).1 k d from lt)
])

-- what each call of a closure answers, where no call changes what it captures
module _ {F X R : Type 0} (g : Mut F X R) (P : X → R → Type 0) (f : F) (step : (a : X) (r : R) (f' : F) → Called g f a r f' → P a r × (f' ≡ f)) where
  each : (xs : List X) (h : F) → h ≡ f → ReturnsEach g P h xs
  each [] h e = tt
  each (a ∷ xs) h e = λ r h' c. let this : P a r × (h' ≡ f) = step a r h' (subst (λ z. Called g z a r h') e c) in (this.0, each xs h' this.1)

  pub answers_same : AlwaysReturns g P f
  answers_same = record { at = λ xs. each xs f refl }
