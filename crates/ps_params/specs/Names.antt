-- The buckets that an asker has over a source.
use Rattle.std.specs.Prelude.{◌≡◌, ℕ, true, List, map, flat_map}
use Rattle.std.specs.List.{AllByRecursion}
use Rattle.ps_data.specs.declared.values.Value.{Value}
use Rattle.ps_queries.specs.declared.askers.Asker.{Asker}
use Rattle.ps_definitions.specs.declared.definitions.Definition.{Definition}
use Rattle.ps_queries.specs.Vectors.{SourceRow}
use Rattle.ps_definitions.specs.Vectors.{parameter_vectors}
use Rattle.ps_definitions.specs.Buckets.{bucket_name_of, in_order}
use Rattle.ps_definitions.specs.Laws.{IsSqlValue}
use Rattle.ps_definitions.specs.Names.{is_definition_name}

-- the names of a definition's buckets, one for each vector
abbrev pub definition_names : Asker → List SourceRow → Definition → List (List ℕ)
definition_names asker source definition = map (bucket_name_of definition.name) (parameter_vectors definition asker source)

-- the names of all buckets, each once, in the order of their bytes
abbrev pub bucket_names : List Definition → Asker → List SourceRow → List (List ℕ)
bucket_names definitions asker source = in_order (flat_map (definition_names asker source) definitions)

-- whatever definition and vector a bucket's name is of, the vector is of integers of signed 64 bits
abbrev pub IsTold : List ℕ → Type 0
IsTold name = (definition : List ℕ) (values : List Value) → is_definition_name definition ≡ true → name ≡ bucket_name_of definition values → AllByRecursion IsSqlValue values

abbrev pub AreTold : List (List ℕ) → Type 0
AreTold names = AllByRecursion IsTold names
