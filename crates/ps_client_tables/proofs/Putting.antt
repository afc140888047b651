-- What the texts that write one row, and those that take rows out, make of a table.
use Rattle.std.proofs.Common.{◌≡◌, ℕ, Bool, true, false, List, [], ◌∷◌, length, ◌/◌, Some, None, Option, Ok, sym, ap, subst, ◌∙◌, slice_get}
use Rattle.std.specs.List.{list_all}
use Rattle.sqlite_value.specs.declared.value.Value.TheVariants.{Null}
use Rattle.sqlite_value.specs.Order.{Row}
use Rattle.sqlite_trees.specs.Tree.{Trees, put_row}
use Rattle.sqlite_sql.specs.Term.{Term, holds}
use Rattle.sqlite_sql.specs.Query.{IsAnswer}
use Rattle.sqlite_schema.specs.declared.schema.Table.{Table}
use Rattle.sqlite_schema.specs.declared.schema.Keys.TheVariants.{Enforced}
use Rattle.sqlite_schema.specs.declared.command.Conflict.TheVariants.{Replace}
use Rattle.sqlite_schema.specs.declared.command.Command.TheVariants.{InsertOr, Delete}
use Rattle.sqlite_schema.specs.declared.command.Source.TheVariants.{Values}
use Rattle.sqlite_rules.specs.Cast.{cast_row}
use Rattle.sqlite_rules.specs.Keys.{conflicts}
use Rattle.sqlite_rules.specs.Edit.{without_all}
use Rattle.sqlite_rules.specs.Action.{works}
use Rattle.sqlite_rules.specs.Calls.{ids_of}
use Rattle.sqlite_rules.specs.Lists.{Has}
use Rattle.sqlite_rules.proofs.ProbeLemmas.{found_rowids}
use Rattle.sqlite.specs.Effect.{Database, value_rows}
use Rattle.sqlite.specs.Does.{Tally, Does, AtPlace, OnRows, Concludes}
use Rattle.sqlite.specs.Rows.{Task, Written, stamped}
use Rattle.sqlite.specs.Listing.{understood}
use Rattle.sqlite.specs.State.{State, mode_of, ExecutesInside}
use Rattle.sqlite.proofs.Callers.{runs_as, statement_of}
use Rattle.ps_client_tables.specs.Schemas.{client_schema}
use Rattle.ps_client_tables.specs.Tables.{AreRows, less}
use Rattle.ps_client_tables.proofs.Left.{Finds, left_over}
use Rattle.ps_client_tables.proofs.Texts.{IsPut, IsDrop, rowids, lone}
use Rattle.ps_client_tables.proofs.Writing.{Sets, placed, went, same_value, inserted, deleted}

-- the rows that are found are those of a query for rowids
found_by : (tree : ℕ) (terms : List Term) (db : Trees) (given : Row) (found : List Row) → IsAnswer (rowids tree terms) db given found
    → Finds (λ r. list_all (holds (given ∷ r ∷ [])) terms) (db tree) found
found_by tree terms db given found a =
    let it = found_rowids tree terms db given found (record { staged = a.staged; grouped = a.grouped; kept = a.kept; distinct = a.distinct; ordered = a.ordered; same = a.same; sorted = a.sorted; shown = a.shown }) in
    record { sound = it.sound; complete = it.complete }

found_alike : (p q : Row → Bool) (rows found : List Row) → ((r : Row) → Has rows r → p r ≡ q r) → Finds p rows found → Finds q rows found
found_alike p q rows found same it = record {
  sound = λ x h. let r = it.sound x h in (r.0, r.1, sym (same r.0 r.1) ∙ r.2, r.3);
  complete = λ r h passes. it.complete r h (same r h ∙ passes);
}

-- the table of a tree has these rows now, in a transaction over a client's tables, and each other table has its own
pub record Becomes (tree : ℕ) (rows : List Row) (old new : State) : Type 0 where
  pub inside : new.in_transaction ≡ true
  pub schema_is : new.now.schema ≡ client_schema
  pub sets : Sets client_schema tree rows old.now.trees new.now.trees

module _ (old new : State) (params : Row) (table : Table) (count : ℕ) (has : old.now.schema ≡ client_schema) (in_order : AreRows (old.now.trees table.tree)) where
  abbrev task : Task
  task = record { limit = old.step_limit; keys = Enforced; schema = client_schema; table = table; params = params }

  abbrev rows : List Row
  rows = old.now.trees table.tree

  module _ (free : (olds news : List Row) → works client_schema Enforced 0 table.tree olds news ≡ []) (sql : List ℕ) (at : ℕ) (there : slice_get client_schema.tables at ≡ Some table) (ran : ExecutesInside 0 sql params old new (Ok count)) where
    ends : (w : Written) (tally : Tally) → Concludes task (mode_of old) None w (Ok (tally, new.now)) → new.now ≡ record { schema = client_schema; trees = w.trees }
    ends w tally h = ap (λ (p : Tally × Database). p.1) (same_value (went (went h).2).2)

    becomes : (w : Written) (tally : Tally) (left : List Row) → Concludes task (mode_of old) None w (Ok (tally, new.now)) → Sets client_schema table.tree left old.now.trees w.trees → Becomes table.tree left old new
    becomes w tally left h sets =
        let now = ends w tally h in
        record {
          inside = ran.1.mode;
          schema_is = ap (λ (d : Database). d.schema) now;
          sets = subst (λ (d : Database). Sets client_schema table.tree left old.now.trees d.trees) (sym now) sets;
        }

    -- an upsert of one row
    pub put_becomes : (terms : List Term) (width : ℕ) → IsPut sql at terms width → (counted : table.is_counted ≡ false) (source row : Row) (test : Row → Bool)
        → value_rows (stamped table params) width (length terms / width) terms ≡ source ∷ []
        → cast_row table (placed task free old.now.trees source) ≡ row
        → ((r : Row) → Has rows r → conflicts None client_schema.indexes table (placed task free old.now.trees source) r ≡ test r)
        → Becomes table.tree (put_row row (less test rows)) old new
    put_becomes terms width text counted source row test given cast same =
        let command = InsertOr at Replace (Values terms width) [] in
        let w = runs_as sql params old new client_schema has command text.command text.plain count ran.0 in
        let bare = statement_of sql (understood client_schema sql) in
        let does = subst (λ s. Does old.step_limit (mode_of old) params (record old.now { schema = s }) bare None command (Ok (w.tally, new.now))) has w.changed in
        let on = subst (λ (o : Option Table). AtPlace (λ t. OnRows (record { limit = old.step_limit; keys = Enforced; schema = client_schema; table = t; params = params }) (mode_of old) None command old.now.trees) o (Ok (w.tally, new.now))) there does in
        let done = went on in
        let it = inserted task free counted terms width old.now.trees source done.0 given done.1 in
        let finds = found_alike _ test rows it.found same (record { sound = it.conflicts.sound; complete = it.conflicts.complete }) in
        let left = left_over test rows it.found in_order finds in
        becomes done.0 w.tally (put_row row (less test rows)) done.2
        (subst (λ xs. Sets client_schema table.tree xs old.now.trees done.0.trees) (ap (λ x. put_row x (without_all rows (ids_of it.found))) cast ∙ ap (put_row row) left) it.sets)

    -- a deletion
    pub drop_becomes : (terms : List Term) → IsDrop sql at table.tree terms → (test : Row → Bool)
        → ((r : Row) → list_all (holds (params ∷ r ∷ [])) terms ≡ test r)
        → Becomes table.tree (less test rows) old new
    drop_becomes terms text test same =
        let command = Delete at (lone (rowids table.tree terms)) in
        let w = runs_as sql params old new client_schema has command text.command text.plain count ran.0 in
        let bare = statement_of sql (understood client_schema sql) in
        let does = subst (λ s. Does old.step_limit (mode_of old) params (record old.now { schema = s }) bare None command (Ok (w.tally, new.now))) has w.changed in
        let on = subst (λ (o : Option Table). AtPlace (λ t. OnRows (record { limit = old.step_limit; keys = Enforced; schema = client_schema; table = t; params = params }) (mode_of old) None command old.now.trees) o (Ok (w.tally, new.now))) there does in
        let done = went on in
        let it = deleted task free (lone (rowids table.tree terms)) old.now.trees done.0 done.1 in
        let answer = it.answer.answer Null in
        let finds = found_alike _ test rows it.found (λ x _. same x) (subst (λ rs. Finds (λ r. list_all (holds (params ∷ r ∷ [])) terms) rs it.found) (text.own old.now.trees) (found_by table.tree terms _ params it.found answer)) in
        becomes done.0 w.tally (less test rows) done.2 (subst (λ xs. Sets client_schema table.tree xs old.now.trees done.0.trees) (left_over test rows it.found in_order finds) it.sets)
