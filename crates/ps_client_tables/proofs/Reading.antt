-- What the texts that read a whole table show.
use Rattle.std.proofs.Common.{◌≡◌, inl, inr, Result, Ok, Err, IfErr, ℕ, List, [], ◌∷◌, map, flat_map, Option, Some, None, IsTrue, refl, sym, ap, subst, ◌∙◌, Less, IsPermutation, IsSorted}
use Rattle.std.proofs.lemmas.List.Sorted.{IsPermutation-map}
use Rattle.sqlite_value.specs.declared.value.Value.TheVariants.{Null}
use Rattle.sqlite_value.specs.Order.{Row, value_cmp}
use Rattle.sqlite_value.proofs.OrderLemmas.{then-Equal}
use Rattle.sqlite_trees.specs.Tree.{rowid}
use Rattle.sqlite_trees.proofs.ListLemmas.{map-map, ascending-map, ascending_weaker}
use Rattle.sqlite_keyed.proofs.SortLemmas.{sorted_unique}
use Rattle.sqlite_sql.specs.Query.{Query, Output, output, output_cmp}
use Rattle.sqlite_sql.specs.Program.{overlay}
use Rattle.sqlite_sql.proofs.QueryLemmas.{output_cmp_total}
use Rattle.sqlite_schema.specs.declared.command.Command.TheVariants.{Select}
use Rattle.std.specs.Prelude.{OnErr}
use Rattle.sqlite.specs.declared.error.Error.{Error}
use Rattle.sqlite.specs.State.{State, Shown, ShowsRows, IsUnchanged, Survives, CommitsShowing, FailsToQuery, FailsToShow, IsNotRun}
use Rattle.sqlite.specs.Clock.{timed}
use Rattle.sqlite_schema.specs.declared.command.Returning.{Returning}
use Rattle.sqlite.specs.Listing.{understood}
use Rattle.sqlite.proofs.Callers.{IsPlain, reads_as, never_commits}
use Rattle.sqlite.proofs.StateLemmas.{survives_weaker}
use Rattle.ps_client_tables.specs.Schemas.{client_schema}
use Rattle.ps_client_tables.specs.Tables.{AreRows}
use Rattle.ps_client_tables.specs.Steps.{IsLeft}
use Rattle.ps_client_tables.proofs.Texts.{IsRead, listing, lone}

one_each : {X Y : Type 0} (f : X → Y) (xs : List X) → flat_map (λ x. f x ∷ []) xs ≡ map f xs
one_each f [] = refl
one_each f (x ∷ xs) = ap (λ l. f x ∷ l) (one_each f xs)

module _ (sql : List ℕ) (tree : ℕ) (columns keys : List ℕ) (names : List (List ℕ)) (text : IsRead sql tree columns keys names) where
  abbrev query : Query
  query = listing tree columns keys

  -- what a row is sorted by, and what it shows
  abbrev pub of_row : Row → Output
  of_row r = output query ([] ∷ r ∷ [])

  -- each row is shown once, in order
  pub record Listed (all rows : List Row) : Type 0 where
    pub ordered : List Output
    pub same : IsPermutation (map of_row all) ordered
    pub sorted : IsSorted (output_cmp query) ordered
    pub shown : rows ≡ map (λ o. o.1) ordered

  pub listed : (old new : State) (rows : List Row) → old.now.schema ≡ client_schema → Shown sql [] old new rows → Listed (old.now.trees tree) rows
  listed old new rows has h =
      let all = old.now.trees tree in
      let got = reads_as sql [] old new client_schema has (Select (lone query) names) text.command text.plain text.unlisted rows h in
      let a = got.answer Null in
      let own = overlay old.now.trees [] tree in
      let listed : a.kept ≡ map of_row own = a.distinct ∙ ap (map (output query)) (a.grouped ∙ one_each (λ r. [] ∷ r ∷ []) own) ∙ map-map (output query) (λ r. [] ∷ r ∷ []) own in
      let kept : a.kept ≡ map of_row all = subst (λ rs. a.kept ≡ map of_row rs) (text.own old.now.trees) listed in
      record { ordered = a.ordered; same = subst (λ l. IsPermutation l a.ordered) kept a.same; sorted = a.sorted; shown = a.shown }

  -- in any order
  pub shows_each : (old new : State) (rows : List Row) → old.now.schema ≡ client_schema → Shown sql [] old new rows → IsPermutation (map (λ r. (of_row r).1) (old.now.trees tree)) rows
  shows_each old new rows has h =
      let it = listed old new rows has h in
      let all = old.now.trees tree in
      subst (IsPermutation (map (λ r. (of_row r).1) all)) (sym it.shown)
      (subst (λ l. IsPermutation l (map (λ (o : Output). o.1) it.ordered)) (map-map (λ (o : Output). o.1) of_row all) (IsPermutation-map (λ (o : Output). o.1) _ _ it.same))

-- in the order of the rowids
module _ (sql : List ℕ) (tree : ℕ) (columns : List ℕ) (names : List (List ℕ)) (text : IsRead sql tree columns (0 ∷ []) names) where
  pub shows_in_order : (old new : State) (rows : List Row) → old.now.schema ≡ client_schema → AreRows (old.now.trees tree) → Shown sql [] old new rows
      → rows ≡ map (λ r. (of_row sql tree columns (0 ∷ []) names text r).1) (old.now.trees tree)
  shows_in_order old new rows has in_order h =
      let q = listing tree columns (0 ∷ []) in
      let out = of_row sql tree columns (0 ∷ []) names text in
      let all = old.now.trees tree in
      let it = listed sql tree columns (0 ∷ []) names text old new rows has h in
      let rises = ascending-map (λ x y. output_cmp q x y ≡ Less) out all
      (ascending_weaker (λ x y. value_cmp (rowid x) (rowid y) ≡ Less) (λ x y. output_cmp q (out x) (out y) ≡ Less) (λ x y up. then-Equal (value_cmp (rowid x) (rowid y)) ∙ up) all in_order.0) in
      let ordered : it.ordered ≡ map out all = sorted_unique (output_cmp q) (output_cmp_total q) _ it.ordered rises it.same it.sorted in
      it.shown ∙ ap (map (λ (o : Output). o.1)) ordered ∙ map-map (λ (o : Output). o.1) out all

-- a query leaves the database as it was
pub reads_only : (sql : List ℕ) (old new : State) (rows : List Row) → old.now.schema ≡ client_schema → IsPlain (understood client_schema sql) → Shown sql [] old new rows → IsUnchanged old new
unfolding Shown
reads_only sql old new rows has plain h =
    let known = sym h.1.is ∙ ap (λ s. understood s sql) has in
    let bare = subst IsPlain (sym known) plain in
    (rw bare.0 at h.2).3

-- and what a crash may leave of it
pub commits_nothing : (sql : List ℕ) (old new : State) → old.now.schema ≡ client_schema → IsPlain (understood client_schema sql) → Survives old new (CommitsShowing sql [] old) → Survives old new (λ _. ⊥)
commits_nothing sql old new has plain =
    survives_weaker old new _ _ (λ _ db. never_commits sql [] old db (subst (λ s. IsPlain (understood s sql)) (sym has) plain))

-- only an open database answers
pub answers_open : (sql : List ℕ) (params : Row) (old new : State) (rows : List Row) → Shown sql params old new rows → IsTrue old.is_open
unfolding Shown
answers_open sql params old new rows h = go h.0.returning h.2
  where
    go : (o : Option Returning) → ShowsRows old new sql h.0 (timed params h.0.formats h.1.now) rows o → IsTrue old.is_open
    go None it = it.3.0.was_open
    go (Some what) it = it.1.shown.was_open

-- a refused query changes nothing, or goes back to the last commit
refused_by : (sql : List ℕ) (params : Row) (old new : State) (e : Error) → FailsToQuery sql params old new e → IsLeft old new
unfolding FailsToQuery IsNotRun
refused_by sql params old new e (inl (inl h)) = inl h.1
refused_by sql params old new e (inl (inr h)) = inr h.3
refused_by sql params old new e (inr h) = go h.0.returning h.2
  where
    go : (o : Option Returning) → FailsToShow old new sql h.0 (timed params h.0.formats h.1.now) e o → IsLeft old new
    go None it = inl it.3
    go (Some what) (inl it) = inl it.1
    go (Some what) (inr it) = inr it.3

pub refuses : {X : Type 0} (sql : List ℕ) (params : Row) (old new : State) (r : Result X Error) → IfErr r (FailsToQuery sql params old new) → OnErr r (IsLeft old new)
refuses sql params old new (Ok x) h = tt
refuses sql params old new (Err e) h = refused_by sql params old new e h
