-- What the resolver reads in each text, under the schema that the texts make.
use Rattle.std.proofs.Common.{◌≡◌, ℕ, pos, negsuc, List, [], ◌∷◌, map, false, codes, None, refl}
use Rattle.sqlite.specs.declared.types.Value.TheVariants.{Null, Int}
use Rattle.sqlite.specs.Collation.TheVariants.{Binary}
use Rattle.sqlite.specs.Term.{Term, lit, col, op2}
use Rattle.sqlite.specs.Query.{Query, inner, end}
use Rattle.sqlite.specs.Source.TheVariants.{Values}
use Rattle.sqlite.specs.Command.TheVariants.{InsertOr, Delete, Select}
use Rattle.sqlite_schema.specs.declared.command.Conflict.TheVariants.{Replace}
use Rattle.sqlite_schema.specs.declared.program.Program.{Program}
use Rattle.sqlite_sql.specs.declared.ops.BinaryOp.TheVariants.{Compare}
use Rattle.sqlite_sql.specs.declared.ops.CompareOp.TheVariants.{Eq}
use Rattle.sqlite_trees.specs.Tree.{Trees}
use Rattle.sqlite_sql.specs.Program.{overlay}
use Rattle.sqlite_tied.specs.Compute.{everything}
use Rattle.sqlite.specs.Listing.{understood, reads_listing}
use Rattle.sqlite.proofs.Callers.{IsPlain, command_of}
use Rattle.sqlite_value.specs.Keys.{ascending}
use Rattle.ps_client_tables.specs.Schemas.{client_schema}
use Rattle.ps_client_tables.specs.Statements as text

-- a text writes a row of these terms into the table at this place of the schema
pub record IsPut (sql : List ℕ) (at : ℕ) (terms : List Term) (width : ℕ) : Type 0 where
  pub command : command_of (understood client_schema sql) ≡ InsertOr at Replace (Values terms width) []
  pub plain : IsPlain (understood client_schema sql)

-- the rowids of the rows of a tree that pass the terms
abbrev pub rowids : ℕ → List Term → Query
rowids tree terms = record { from = inner tree end; filter = terms; group = None; project = col 1 0 ∷ []; distinct = false; collations = []; order = []; limit = lit (Int (negsuc 0)); offset = lit (Int (pos 0)) }

abbrev pub lone : Query → Program
lone query = record { lets = []; body = query }

-- a text takes out the rows of a tree that pass the terms
pub record IsDrop (sql : List ℕ) (at tree : ℕ) (terms : List Term) : Type 0 where
  pub command : command_of (understood client_schema sql) ≡ Delete at (lone (rowids tree terms))
  pub plain : IsPlain (understood client_schema sql)
  pub own : (db : Trees) → overlay db [] tree ≡ db tree

-- a text shows these columns of the rows of a tree, in the order of the columns `keys`
abbrev pub listing : ℕ → List ℕ → List ℕ → Query
listing tree columns keys = record {
  from = inner tree end;
  filter = [];
  group = None;
  project = map (col 1) columns;
  distinct = false;
  collations = [];
  order = map (λ at. (col 1 at, ascending Binary)) keys;
  limit = lit (Int (negsuc 0));
  offset = lit (Int (pos 0));
}

pub record IsRead (sql : List ℕ) (tree : ℕ) (columns keys : List ℕ) (names : List (List ℕ)) : Type 0 where
  pub command : command_of (understood client_schema sql) ≡ Select (lone (listing tree columns keys)) names
  pub unlisted : reads_listing client_schema sql ≡ false
  pub plain : IsPlain (understood client_schema sql)
  pub own : (db : Trees) → overlay db [] tree ≡ db tree

abbrev pub equals : ℕ → ℕ → Term
equals column param = op2 (Compare Eq Binary) (col 1 column) (col 0 param)

-- ---- the fourteen texts

abbrev pub bucket_terms : List Term
bucket_terms = lit Null ∷ col 0 0 ∷ col 0 1 ∷ col 0 2 ∷ []

pub put_bucket_is : IsPut text.put_bucket_text 0 bucket_terms 4
unfolding understood everything
put_bucket_is = record { command = refl; plain = (refl, refl) }

pub drop_bucket_is : IsDrop text.drop_bucket_text 0 0 (equals 1 0 ∷ [])
unfolding understood everything
drop_bucket_is = record { command = refl; plain = (refl, refl); own = λ db. refl }

pub read_buckets_is : IsRead text.read_buckets_text 0 (1 ∷ 2 ∷ 3 ∷ []) (1 ∷ []) (codes "name" ∷ codes "position" ∷ codes "added" ∷ [])
unfolding understood everything
read_buckets_is = record { command = refl; unlisted = refl; plain = (refl, refl); own = λ db. refl }

abbrev pub entry_terms : List Term
entry_terms = lit Null ∷ col 0 0 ∷ col 0 1 ∷ col 0 2 ∷ col 0 3 ∷ col 0 4 ∷ col 0 5 ∷ col 0 6 ∷ []

pub put_entry_is : IsPut text.put_entry_text 1 entry_terms 8
unfolding understood everything
put_entry_is = record { command = refl; plain = (refl, refl) }

abbrev pub entry_tests : List Term
entry_tests = equals 1 0 ∷ equals 2 1 ∷ equals 3 2 ∷ equals 4 3 ∷ []

pub drop_entry_is : IsDrop text.drop_entry_text 1 2 entry_tests
unfolding understood everything
drop_entry_is = record { command = refl; plain = (refl, refl); own = λ db. refl }

pub read_entries_is : IsRead text.read_entries_text 2 (1 ∷ 2 ∷ 3 ∷ 4 ∷ 5 ∷ 6 ∷ 7 ∷ []) (1 ∷ 2 ∷ 3 ∷ 4 ∷ [])
    (codes "bucket" ∷ codes "kind" ∷ codes "id" ∷ codes "subkey" ∷ codes "op" ∷ codes "data" ∷ codes "sum" ∷ [])
unfolding understood everything
read_entries_is = record { command = refl; unlisted = refl; plain = (refl, refl); own = λ db. refl }

abbrev pub queued_terms : List Term
queued_terms = col 0 0 ∷ lit Null ∷ col 0 1 ∷ []

pub put_queued_is : IsPut text.put_queued_text 2 queued_terms 3
unfolding understood everything
put_queued_is = record { command = refl; plain = (refl, refl) }

pub drop_queued_is : IsDrop text.drop_queued_text 2 4 (equals 0 0 ∷ [])
unfolding understood everything
drop_queued_is = record { command = refl; plain = (refl, refl); own = λ db. refl }

pub read_queue_is : IsRead text.read_queue_text 4 (0 ∷ 2 ∷ []) (0 ∷ []) (codes "seq" ∷ codes "change" ∷ [])
unfolding understood everything
read_queue_is = record { command = refl; unlisted = refl; plain = (refl, refl); own = λ db. refl }

abbrev pub aim_terms : List Term
aim_terms = lit (Int (pos 1)) ∷ lit Null ∷ col 0 0 ∷ col 0 1 ∷ []

pub put_aim_is : IsPut text.put_aim_text 3 aim_terms 4
unfolding understood everything
put_aim_is = record { command = refl; plain = (refl, refl) }

pub read_aim_is : IsRead text.read_aim_text 5 (0 ∷ 2 ∷ 3 ∷ []) (0 ∷ []) (codes "one" ∷ codes "kind" ∷ codes "number" ∷ [])
unfolding understood everything
read_aim_is = record { command = refl; unlisted = refl; plain = (refl, refl); own = λ db. refl }

abbrev pub shown_terms : List Term
shown_terms = lit Null ∷ col 0 0 ∷ col 0 1 ∷ col 0 2 ∷ []

pub put_shown_is : IsPut text.put_shown_text 4 shown_terms 4
unfolding understood everything
put_shown_is = record { command = refl; plain = (refl, refl) }

pub drop_shown_is : IsDrop text.drop_shown_text 4 6 (equals 1 0 ∷ equals 2 1 ∷ [])
unfolding understood everything
drop_shown_is = record { command = refl; plain = (refl, refl); own = λ db. refl }

pub read_shown_is : IsRead text.read_shown_text 6 (1 ∷ 2 ∷ 3 ∷ []) (1 ∷ 2 ∷ []) (codes "kind" ∷ codes "id" ∷ codes "data" ∷ [])
unfolding understood everything
read_shown_is = record { command = refl; unlisted = refl; plain = (refl, refl); own = λ db. refl }
