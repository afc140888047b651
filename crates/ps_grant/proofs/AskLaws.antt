-- The vectors of a parameter query on one row more.
use Rattle.std.proofs.Common.{◌≡◌, ℕ, ◌<◌, true, cond, List, [], ◌∷◌, ◌++◌, Option, None, length, filter, flat_map, refl, sym, ap, ◌∙◌, append-nil, arith}
use Rattle.std.specs.Prelude.{bytes_eq}
use Rattle.ps_data.specs.declared.columns.Column.{Column}
use Rattle.ps_data.specs.declared.values.Value.{Value}
use Rattle.ps_data.specs.declared.values.Value.TheVariants.{Null}
use Rattle.ps_queries.specs.declared.queries.ParameterQuery.{ParameterQuery}
use Rattle.ps_queries.specs.declared.askers.Asker.{Asker}
use Rattle.ps_queries.specs.Vectors.{SourceRow, vector_on, at_row}
use Rattle.ps_definitions.specs.Vectors.{rows_read, query_vectors, vector_at}
use Rattle.ps_rows.specs.Source.{Key}
use Rattle.ps_granted.specs.Sources.{row_of, rows_in}
use Rattle.ps_grant.specs.declared.sourcing.Version.{Version as Held}
use Rattle.ps_grant.specs.Mapped.{version_of}
use Rattle.ps_grant.proofs.KeptLaws.{held}

module _ (names : List (List ℕ)) (asker : Asker) (query : ParameterQuery) where
  -- a query without FROM reads the one row that is none
  pub vector_alone : (source : List SourceRow) (id : List ℕ) (row : List Column) → query.table ≡ None → id ≡ [] → row ≡ [] → vector_on names asker query (at_row id row) ≡ query_vectors names asker source query
  vector_alone source id row table no_id no_columns =
      ap (λ i. vector_on names asker query (at_row i row)) no_id
      ∙ ap (λ (r : List Column). vector_on names asker query (at_row [] r)) no_columns
      ∙ sym (append-nil (vector_on names asker query (at_row [] [])))
      ∙ ap (λ (t : Option (List ℕ)). flat_map (vector_on names asker query) (rows_read t source)) (sym table)

-- a row of the table
pub row_taken : {A : Type 0} (f : SourceRow → List A) (table : List ℕ) (rows : List (Key × Held)) (key : Key) (version : Held) (rest : List (Key × Held)) → rows ≡ (key, version) ∷ rest
    → bytes_eq key.0 table ≡ true
    → flat_map f (filter (λ (r : SourceRow). bytes_eq r.table table) (rows_in (held rows)))
    ≡ f (row_of (key, version_of version)) ++ flat_map f (filter (λ (r : SourceRow). bytes_eq r.table table) (rows_in (held rest)))
row_taken f table rows key version rest is here =
    ap (λ (es : List (Key × Held)). flat_map f (filter (λ (r : SourceRow). bytes_eq r.table table) (rows_in (held es)))) is
    ∙ ap (λ b. flat_map f (cond b (row_of (key, version_of version) ∷ filter (λ (r : SourceRow). bytes_eq r.table table) (rows_in (held rest)))
    (filter (λ (r : SourceRow). bytes_eq r.table table) (rows_in (held rest))))) here

-- a vector that has ended, or names that have
pub no_names : (names : List (List ℕ)) (vector : List Value) (name : List ℕ) → length names < 1 → Null ≡ vector_at names vector name
no_names [] vector name h = refl
no_names (n ∷ names) vector name h = absurd (omega arith)

pub no_values : (names : List (List ℕ)) (vector : List Value) (name : List ℕ) → length vector < 1 → Null ≡ vector_at names vector name
no_values [] vector name h = refl
no_values (n ∷ names) [] name h = refl
no_values (n ∷ names) (v ∷ vector) name h = absurd (omega arith)
