-- What the rows under one key are after a row was put in the place of those under its key, or these were taken out.
use Rattle.std.proofs.Common.{◌≡◌, Bool, true, false, not, cond, ◌||◌, List, [], ◌∷◌, map, filter, Option, Some, None, option_map, option_to_list, refl, sym, ap, subst, ◌∙◌, Ordering, Less, Equal, Greater}
use Rattle.std.specs.List.{AllByRecursion, list_any}
use Rattle.std.specs.Ordering.{is_eq, match_ordering}
use Rattle.std.proofs.lemmas.Bool.{or_parts}
use Rattle.sqlite_value.specs.Order.{Row, value_cmp}
use Rattle.sqlite_trees.specs.Tree.{rowid, put_row}
use Rattle.sqlite_trees.proofs.ListLemmas.{all-filter}
use Rattle.sqlite_rules.specs.Edit.{is_taken}
use Rattle.ps_client_tables.specs.Tables.{less}
use Rattle.ps_client_sqlite.specs.Stored.{Shows}

-- where the next of a list is passed or kept, so is the whole
kept_on : (p : Row → Bool) (r : Row) (xs ys : List Row) → xs ≡ ys → cond (p r) (r ∷ xs) xs ≡ cond (p r) (r ∷ ys) ys
kept_on p r xs ys same = ap (λ (ls : List Row). cond (p r) (r ∷ ls) ls) same

-- a row that does not pass is not among those that pass
put_aside : (p : Row → Bool) (new : Row) (rows : List Row) → is_taken rows new ≡ false → p new ≡ false → filter p (put_row new rows) ≡ filter p rows
put_aside p new [] free out = ap (λ b. cond b (new ∷ []) []) out
put_aside p new (r ∷ rows) free out = go (value_cmp (rowid r) (rowid new)) (or_parts _ _ free).0 (put_aside p new rows (or_parts _ _ free).1 out)
  where
    go : (o : Ordering) → is_eq o ≡ false → filter p (put_row new rows) ≡ filter p rows → filter p (match_ordering o (r ∷ put_row new rows) (new ∷ rows) (new ∷ r ∷ rows)) ≡ filter p (r ∷ rows)
    go Less other later = kept_on p r (filter p (put_row new rows)) (filter p rows) later
    go Equal other later = absurd (cc)
    go Greater other later = ap (λ b. cond b (new ∷ filter p (r ∷ rows)) (filter p (r ∷ rows))) out

apart : (p : Row → Bool) (r : Row) (rows : List Row) (b : Bool) → p r ≡ b → cond b (r ∷ rows) rows ≡ [] → (p r ≡ false) × (rows ≡ [])
apart p r rows true e h = absurd (cc)
apart p r rows false e h = (e, h)

-- a row that passes where none did is the only one
put_alone : (p : Row → Bool) (new : Row) (rows : List Row) → is_taken rows new ≡ false → p new ≡ true → filter p rows ≡ [] → filter p (put_row new rows) ≡ new ∷ []
put_alone p new [] free is none = ap (λ b. cond b (new ∷ []) []) is
put_alone p new (r ∷ rows) free is none =
    let parts = apart p r (filter p rows) (p r) refl none in
    go parts.0 (value_cmp (rowid r) (rowid new)) (or_parts _ _ free).0 (put_alone p new rows (or_parts _ _ free).1 is parts.1)
  where
    go : p r ≡ false → (o : Ordering) → is_eq o ≡ false → filter p (put_row new rows) ≡ new ∷ []
        → filter p (match_ordering o (r ∷ put_row new rows) (new ∷ rows) (new ∷ r ∷ rows)) ≡ new ∷ []
    go out Less other later = ap (λ b. cond b (r ∷ filter p (put_row new rows)) (filter p (put_row new rows))) out ∙ later
    go out Equal other later = absurd (cc)
    go out Greater other later = ap (λ b. cond b (new ∷ filter p (r ∷ rows)) (filter p (r ∷ rows))) is ∙ ap (λ (ls : List Row). new ∷ ls) none

-- without the rows that pass a test none passes it
less_itself : (p : Row → Bool) (rows : List Row) → filter p (less p rows) ≡ []
less_itself p [] = refl
less_itself p (r ∷ rows) = go (p r) refl (less_itself p rows)
  where
    go : (b : Bool) → p r ≡ b → filter p (less p rows) ≡ [] → filter p (cond (not b) (r ∷ less p rows) (less p rows)) ≡ []
    go true e later = later
    go false e later = ap (λ b. cond b (r ∷ filter p (less p rows)) (filter p (less p rows))) e ∙ later

pub none_left : (p : Row → Bool) (rows : List Row) → list_any p (less p rows) ≡ false
none_left p [] = refl
none_left p (r ∷ rows) = go (p r) refl (none_left p rows)
  where
    go : (b : Bool) → p r ≡ b → list_any p (less p rows) ≡ false → list_any p (cond (not b) (r ∷ less p rows) (less p rows)) ≡ false
    go true e later = later
    go false e later = ap (λ b. b || list_any p (less p rows)) e ∙ later

-- where none of the rows passes a test, none of some of them does
pub fewer : (p q : Row → Bool) (rows : List Row) → list_any p rows ≡ false → list_any p (filter q rows) ≡ false
fewer p q [] none = refl
fewer p q (r ∷ rows) none = go (or_parts _ _ none).0 (q r) (fewer p q rows (or_parts _ _ none).1)
  where
    go : p r ≡ false → (b : Bool) → list_any p (filter q rows) ≡ false → list_any p (cond b (r ∷ filter q rows) (filter q rows)) ≡ false
    go out true later = ap (λ b. b || list_any p (filter q rows)) out ∙ later
    go out false later = later

-- and those that pass another test stay, where no row passes both
less_other : (p q : Row → Bool) → ((r : Row) → p r ≡ true → q r ≡ false) → (rows : List Row) → filter q (less p rows) ≡ filter q rows
less_other p q other [] = refl
less_other p q other (r ∷ rows) = go (p r) refl (less_other p q other rows)
  where
    go : (b : Bool) → p r ≡ b → filter q (less p rows) ≡ filter q rows → filter q (cond (not b) (r ∷ less p rows) (less p rows)) ≡ cond (q r) (r ∷ filter q rows) (filter q rows)
    go true e later = later ∙ sym (ap (λ b. cond b (r ∷ filter q rows) (filter q rows)) (other r e))
    go false e later = kept_on q r (filter q (less p rows)) (filter q rows) later

all_put : (P : Row → Type 0) (new : Row) (rows : List Row) → P new → AllByRecursion P rows → AllByRecursion P (put_row new rows)
all_put P new [] here all = (here, tt)
all_put P new (r ∷ rows) here all = go (value_cmp (rowid r) (rowid new)) (all_put P new rows here all.1)
  where
    go : (o : Ordering) → AllByRecursion P (put_row new rows) → AllByRecursion P (match_ordering o (r ∷ put_row new rows) (new ∷ rows) (new ∷ r ∷ rows))
    go Less later = (all.0, later)
    go Equal later = (here, all.1)
    go Greater later = (here, all)

-- a test for each key, and when two keys are the same: no row has two keys
pub record AreKeys {K : Type 0} (has : K → Row → Bool) (same : K → K → Bool) : Type 0 where
  pub equal : (a b : K) → same a b ≡ true → a ≡ b
  pub apart : (a b : K) (r : Row) → same a b ≡ false → has a r ≡ true → has b r ≡ false

module _ {K V : Type 0} (has : K → Row → Bool) (line : Row → Row) (columns : K → V → Row) (same : K → K → Bool) (keys : AreKeys has same) (found : K → Option V) (rows : List Row) (shows : Shows has line columns found rows) (key : K) where
  put_there : (value : V) (new : Row) → is_taken (less (has key) rows) new ≡ false → has key new ≡ true → line new ≡ columns key value
      → (other : K) (b : Bool) → same key other ≡ b → map line (filter (has other) (put_row new (less (has key) rows))) ≡ option_to_list (option_map (columns other) (cond b (Some value) (found other)))
  put_there value new free is written other true e =
      subst (λ k. map line (filter (has k) (put_row new (less (has key) rows))) ≡ columns k value ∷ []) (keys.equal key other e)
      (ap (map line) (put_alone (has key) new (less (has key) rows) free is (less_itself (has key) rows)) ∙ ap (λ (r : Row). r ∷ []) written)
  put_there value new free is written other false e =
      ap (map line) (put_aside (has other) new (less (has key) rows) free (keys.apart key other new e is) ∙ less_other (has key) (has other) (λ r. keys.apart key other r e) rows) ∙ shows.each other

  -- a row in the place of those under its key
  pub shows_put : (value : V) (new : Row) → is_taken (less (has key) rows) new ≡ false → has key new ≡ true → line new ≡ columns key value
      → Shows has line columns (λ other. cond (same key other) (Some value) (found other)) (put_row new (less (has key) rows))
  shows_put value new free is written = record {
    each = λ other. put_there value new free is written other (same key other) refl;
    only = all_put (λ row. (k : K) × (has k row ≡ true)) new (less (has key) rows) (key, is) (all-filter (λ row. (k : K) × (has k row ≡ true)) (λ r. not (has key r)) rows shows.only);
  }

  gone_there : (other : K) (b : Bool) → same key other ≡ b → map line (filter (has other) (less (has key) rows)) ≡ option_to_list (option_map (columns other) (cond b None (found other)))
  gone_there other true e = subst (λ k. map line (filter (has k) (less (has key) rows)) ≡ []) (keys.equal key other e) (ap (map line) (less_itself (has key) rows))
  gone_there other false e = ap (map line) (less_other (has key) (has other) (λ r. keys.apart key other r e) rows) ∙ shows.each other

  -- no row under a key
  pub shows_drop : Shows has line columns (λ other. cond (same key other) None (found other)) (less (has key) rows)
  shows_drop = record {
    each = λ other. gone_there other (same key other) refl;
    only = all-filter (λ row. (k : K) × (has k row ≡ true)) (λ r. not (has key r)) rows shows.only;
  }
