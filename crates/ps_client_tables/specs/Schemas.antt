-- The tables of a client's storage, as their texts make them.
use Rattle.std.specs.Prelude.{◌≡◌, ℕ, false, true, List, [], ◌∷◌, codes, Some, None}
use Rattle.sqlite.specs.Collation.TheVariants.{Binary}
use Rattle.sqlite.specs.Kind.{Kind}
use Rattle.sqlite.specs.Kind.TheVariants.{Integer, Text}
use Rattle.sqlite.specs.declared.types.Value.TheVariants.{Null}
use Rattle.sqlite.specs.Table.{Table}
use Rattle.sqlite.specs.Schema.{Schema}
use Rattle.sqlite_schema.specs.declared.schema.Column.{Column}
use Rattle.sqlite_schema.specs.declared.schema.Index.{Index}

-- a column of a strict table that takes no NULL
abbrev pub held_column : List ℕ → Kind → Column
held_column name kind = record { name = name; kind = kind; is_strict = true; not_null = true; default = Null; collation = Binary }

-- a table has no rules but those of its columns and keys
pub record IsPlainTable (table : Table) : Type 0 where
  pub checks : table.checks ≡ []
  pub references : table.references ≡ []
  pub computed : table.computed ≡ []
  pub stamps : table.stamps ≡ record { places = []; terms = []; formats = [] }
  pub uncounted : table.is_counted ≡ false

-- a table whose first column is its rowid
abbrev pub numbered_table : List ℕ → ℕ → List Column → Table
numbered_table name tree columns = record {
  name = name;
  tree = tree;
  columns = columns;
  key = Some 0;
  primary = 0 ∷ [];
  uniques = [];
  orders = [];
  checks = [];
  references = [];
  computed = [];
  stamps = record { places = []; terms = []; formats = [] };
  is_counted = false;
}

-- a table whose primary key is of these columns, counted from 1
abbrev pub keyed_table : List ℕ → ℕ → List ℕ → List Column → Table
keyed_table name tree key columns = record {
  name = name;
  tree = tree;
  columns = columns;
  key = None;
  primary = key;
  uniques = key ∷ [];
  orders = record { digits = 0 } ∷ [];
  checks = [];
  references = [];
  computed = [];
  stamps = record { places = []; terms = []; formats = [] };
  is_counted = false;
}

-- the index that keeps the primary key of the table of a tree
abbrev pub key_index : List ℕ → ℕ → ℕ → List ℕ → Index
key_index name tree table key = record { name = name; tree = tree; table = table; columns = key; order = record { digits = 0 }; is_unique = true }

abbrev pub bucket_columns : List Column
bucket_columns = held_column (codes "name") Text ∷ held_column (codes "position") Integer ∷ held_column (codes "added") Integer ∷ []

abbrev pub entry_columns : List Column
entry_columns = held_column (codes "bucket") Text ∷ held_column (codes "kind") Text ∷ held_column (codes "id") Text ∷ held_column (codes "subkey") Text
    ∷ held_column (codes "op") Integer ∷ held_column (codes "data") Text ∷ held_column (codes "sum") Integer ∷ []

abbrev pub queue_columns : List Column
queue_columns = held_column (codes "seq") Integer ∷ held_column (codes "change") Text ∷ []

abbrev pub aim_columns : List Column
aim_columns = held_column (codes "one") Integer ∷ held_column (codes "kind") Integer ∷ held_column (codes "number") Integer ∷ []

abbrev pub shown_columns : List Column
shown_columns = held_column (codes "kind") Text ∷ held_column (codes "id") Text ∷ held_column (codes "data") Text ∷ []

abbrev pub buckets_table : Table
buckets_table = keyed_table (codes "buckets") 0 (1 ∷ []) bucket_columns

abbrev pub entries_table : Table
entries_table = keyed_table (codes "entries") 2 (1 ∷ 2 ∷ 3 ∷ 4 ∷ []) entry_columns

abbrev pub queue_table : Table
queue_table = numbered_table (codes "queue") 4 queue_columns

abbrev pub aim_table : Table
aim_table = numbered_table (codes "aim") 5 aim_columns

abbrev pub shown_table : Table
shown_table = keyed_table (codes "shown") 6 (1 ∷ 2 ∷ []) shown_columns

abbrev pub buckets_index : Index
buckets_index = key_index (codes "sqlite_autoindex_buckets_1") 1 0 (1 ∷ [])

abbrev pub entries_index : Index
entries_index = key_index (codes "sqlite_autoindex_entries_1") 3 2 (1 ∷ 2 ∷ 3 ∷ 4 ∷ [])

abbrev pub shown_index : Index
shown_index = key_index (codes "sqlite_autoindex_shown_1") 7 6 (1 ∷ 2 ∷ [])

-- ---- the database while the tables are made, one after another

abbrev pub no_schema : Schema
no_schema = record { tables = []; indexes = []; views = [] }

abbrev pub buckets_schema : Schema
buckets_schema = record { tables = buckets_table ∷ []; indexes = buckets_index ∷ []; views = [] }

abbrev pub entries_schema : Schema
entries_schema = record { tables = buckets_table ∷ entries_table ∷ []; indexes = buckets_index ∷ entries_index ∷ []; views = [] }

abbrev pub queue_schema : Schema
queue_schema = record { tables = buckets_table ∷ entries_table ∷ queue_table ∷ []; indexes = buckets_index ∷ entries_index ∷ []; views = [] }

abbrev pub aim_schema : Schema
aim_schema = record { tables = buckets_table ∷ entries_table ∷ queue_table ∷ aim_table ∷ []; indexes = buckets_index ∷ entries_index ∷ []; views = [] }

-- all five tables, and the index that keeps the key of each that has no number
abbrev pub client_schema : Schema
client_schema = record {
  tables = buckets_table ∷ entries_table ∷ queue_table ∷ aim_table ∷ shown_table ∷ [];
  indexes = buckets_index ∷ entries_index ∷ shown_index ∷ [];
  views = [];
}
