-- What an INSERT OR REPLACE of one row and a DELETE leave of a table that no reference names.
use Rattle.std.proofs.Common.{◌≡◌, ◌≢◌, ◌⊎◌, inl, inr, ℕ, ℤ, Bool, true, false, cond, List, [], ◌∷◌, length, ◌/◌, Some, None, Option, Ok, Err, Result, refl, sym, ap, ◌∙◌, subst}
use Rattle.std.specs.Bool.{MatchBool}
use Rattle.std.specs.List.{AllByRecursion}
use Rattle.sqlite_value.specs.Order.{Row}
use Rattle.sqlite_trees.specs.Tree.{Trees, put_row}
use Rattle.sqlite_sql.specs.Term.{Term}
use Rattle.sqlite_schema.specs.declared.schema.Schema.{Schema}
use Rattle.sqlite_schema.specs.declared.schema.Table.{Table}
use Rattle.sqlite_schema.specs.declared.command.Source.TheVariants.{Values}
use Rattle.sqlite_schema.specs.declared.command.Conflict.TheVariants.{Replace}
use Rattle.sqlite_schema.specs.declared.program.Program.{Program}
use Rattle.sqlite_rules.specs.declared.error.Rowids.TheVariants.{Chosen, Above, Given}
use Rattle.sqlite_rules.specs.declared.error.Refusal.{Refusal}
use Rattle.sqlite_rules.specs.Cast.{cast_row}
use Rattle.sqlite_rules.specs.Keys.{AreConflicts}
use Rattle.sqlite_rules.specs.Edit.{Edit, taken_by, edit_of, edited, with_rowid, without_all}
use Rattle.sqlite_rules.specs.Action.{works}
use Rattle.sqlite_rules.specs.Calls.{ids_of}
use Rattle.sqlite.specs.Effect.{Answers, value_rows}
use Rattle.sqlite.specs.Rows.{Written, Task, Edited, mended, Puts, Clears, Judged, Tries, TriesEach, InsertsOr, Deletes, Counts, stamped, count_of, rowids_for, nothing}
use Rattle.sqlite.proofs.Callers.{one_step}

-- the table of this tree has these rows, and each other table has its own
pub record Sets (schema : Schema) (tree : ℕ) (rows : List Row) (db next : Trees) : Type 0 where
  pub rows_are : next tree ≡ rows
  pub others : AllByRecursion (λ t. t.tree ≢ tree → next t.tree ≡ db t.tree) schema.tables

-- a part that gave a value did not stop on the way
pub went : {B E R : Type 0} {b : B} {Stops : E → Type 0} → ((stop : E) × Stops stop × (Ok b ≡ Err stop)) ⊎ R → R
went (inl stopped) = absurd (let e = stopped.2 in cc)
went (inr on) = on

pub same_value : {B E : Type 0} {a b : B} → ◌≡◌ {A = Result B E} (Ok a) (Ok b) → a ≡ b
same_value e = cc

not_counted : (b x : Bool) (A B : Type 0) → b ≡ false → MatchBool (cond b x false) A B → B
not_counted true x A B e h = absurd (cc)
not_counted false x A B e h = h

module _ (task : Task) (free : (olds news : List Row) → works task.schema task.keys 0 task.table.tree olds news ≡ []) where
  sets : (db next : Trees) (edit : Edit) → edit.table ≡ task.table → Edited task.schema task.keys db edit (Ok next) → Sets task.schema task.table.tree (edited db edit) db next
  sets db next edit same h =
      let none = subst (λ t. works task.schema task.keys 0 t.tree (taken_by db edit) edit.news ≡ []) (sym same) (free _ _) in
      let a = one_step task.schema task.keys db next edit none h in
      subst (λ t. Sets task.schema t.tree (edited db edit) db next) same (record { rows_are = a.rows; others = a.tables })

  puts : (db : Trees) (new : Row) (w : Written) → Puts task new db (Ok w) → Sets task.schema task.table.tree (put_row (cast_row task.table new) (db task.table.tree)) db w.trees
  puts db new w h =
      let done = went h in
      let it = sets db done.0 (edit_of db task.table [] Given 0 (new ∷ [])) refl done.1 in
      let same : w.trees ≡ done.0 = ap (λ (x : Written). x.trees) (same_value done.2) in
      subst (λ t. Sets task.schema task.table.tree (put_row (cast_row task.table new) (db task.table.tree)) db t) (sym same) it

  others_then : (ts : List Table) (a b c : Trees) → AllByRecursion (λ t. t.tree ≢ task.table.tree → b t.tree ≡ a t.tree) ts → AllByRecursion (λ t. t.tree ≢ task.table.tree → c t.tree ≡ b t.tree) ts
      → AllByRecursion (λ t. t.tree ≢ task.table.tree → c t.tree ≡ a t.tree) ts
  others_then [] a b c p q = tt
  others_then (t ∷ ts) a b c p q = (λ other. q.0 other ∙ p.0 other, others_then ts a b c p.1 q.1)

  clears : (db : Trees) (new : Row) (found : List Row) (w : Written) → Clears task Replace new db found (Ok w)
      → Sets task.schema task.table.tree (put_row (cast_row task.table new) (without_all (db task.table.tree) (ids_of found))) db w.trees
  clears db new [] w h = puts db new w h
  clears db new (x ∷ more) w h =
      let done = went h in
      let first = sets db done.0 (edit_of db task.table (ids_of (x ∷ more)) Given 0 []) refl done.1 in
      let second = puts done.0 new w done.2 in
      record { rows_are = second.rows_are ∙ ap (put_row (cast_row task.table new)) first.rows_are; others = others_then task.schema.tables db done.0 w.trees first.others second.others }

  -- a row takes the place of those that conflict with it
  pub record Replaces (new : Row) (db next : Trees) : Type 0 where
    pub found : List Row
    pub conflicts : AreConflicts None task.schema.indexes task.table (db task.table.tree) new found
    pub sets : Sets task.schema task.table.tree (put_row (cast_row task.table new) (without_all (db task.table.tree) (ids_of found))) db next

  judged : (db : Trees) (new : Row) (w : Written) (verdict : Option Refusal) → Judged task Replace [] new db verdict (Ok w) → Replaces new db w.trees
  judged db new w None h = record { found = h.0; conflicts = h.1; sets = clears db new h.0 w h.2 }
  judged db new w (Some why) h = absurd (cc)

  tries : (db : Trees) (new : Row) (w : Written) → Tries task Replace [] new db (Ok w) → Replaces new db w.trees
  tries db new w (inl refused) = absurd (let e = refused.1 in cc)
  tries db new w (inr h) = judged db new w h.0 h.2

  abbrev pub placed : Trees → Row → Row
  placed db source = with_rowid Chosen (db task.table.tree) (cast_row task.table (mended Replace task.table source))

  module _ (counted : task.table.is_counted ≡ false) where
    uncounted : (db next : Trees) (counter : Option Row) (top : ℤ) → Counts task db counter top (Ok next) → next ≡ db
    uncounted db next counter top h = same_value (not_counted task.table.is_counted _ _ _ counted h)

    chosen : (top : ℤ) → rowids_for task.table top ≡ Chosen
    chosen top = ap (λ b. cond b (Above top) Chosen) counted

    each : (db : Trees) (source : Row) (top : ℤ) (done : Written × ℤ) → TriesEach task Replace [] (source ∷ []) top (nothing db) (Ok done) → Replaces (placed db source) db done.0.trees
    each db source top done h =
        let one = went h in
        let first = subst (λ ids. Tries task Replace [] (with_rowid ids (db task.table.tree) (cast_row task.table (mended Replace task.table source))) db (Ok one.0)) (chosen top) one.1 in
        let same : done.0.trees ≡ one.0.trees = ap (λ (x : Written × ℤ). x.0.trees) (same_value one.2) in
        subst (Replaces (placed db source) db) (sym same) (tries db (placed db source) one.0 first)

    -- INSERT OR REPLACE of one row
    pub inserted : (terms : List Term) (width : ℕ) (db : Trees) (source : Row) (w : Written) → value_rows (stamped task.table task.params) width (length terms / width) terms ≡ source ∷ []
        → InsertsOr task Replace [] (Values terms width) db (Ok w) → Replaces (placed db source) db w.trees
    inserted terms width db source w one h =
        let given = went h in
        let counter = went given.2 in
        let tried = went counter.2 in
        let ended = went tried.2 in
        let it = each db source _ tried.0 (subst (λ rs. TriesEach task Replace [] rs (count_of counter.0) (nothing db) (Ok tried.0)) (given.1.1 ∙ one) tried.1) in
        let same : w.trees ≡ tried.0.0.trees = ap (λ (x : Written). x.trees) (same_value ended.2) ∙ uncounted tried.0.0.trees ended.0 counter.0 tried.0.1 ended.1 in
        subst (Replaces (placed db source) db) (sym same) it

  -- DELETE
  pub record Removes (q : Program) (db next : Trees) : Type 0 where
    pub found : List Row
    pub answer : Answers (record { schema = task.schema; trees = db }) q task.params found
    pub sets : Sets task.schema task.table.tree (without_all (db task.table.tree) (ids_of found)) db next

  pub deleted : (q : Program) (db : Trees) (w : Written) → Deletes task q db (Ok w) → Removes q db w.trees
  deleted q db w h =
      let asked = went h in
      let done = went asked.2 in
      let it = sets db done.0 (edit_of db task.table (ids_of asked.0) Given 0 []) refl done.1 in
      let same : w.trees ≡ done.0 = ap (λ (x : Written). x.trees) (same_value done.2) in
      record { found = asked.0; answer = asked.1; sets = subst (Sets task.schema task.table.tree (without_all (db task.table.tree) (ids_of asked.0)) db) (sym same) it }
