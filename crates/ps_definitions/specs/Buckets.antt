-- The names of buckets.
use Rattle.std.specs.Prelude.{ℕ, List, [], ◌∷◌, ◌++◌, map}
use Rattle.std.specs.Ordering.{nat_cmp}
use Rattle.std.specs.Cmp.Lexicographic.{slice_cmp}
use Rattle.std.specs.BTreeSet.{insert_key}
use Rattle.serde_json.specs.Data.{Data, array}
use Rattle.serde_json.specs.View.{items_of}
use Rattle.serde_json.specs.Written.{compact_text}
use Rattle.ps_data.specs.declared.values.Value.{Value}
use Rattle.ps_data.specs.Documents.{data_of}

-- a vector as a JSON array
abbrev pub array_json : List Value → Data
array_json values = array (items_of (map data_of values))

-- the definition's name, and right behind it the compact JSON array of the vector
unfoldable pub bucket_name_of : List ℕ → List Value → List ℕ
bucket_name_of definition values = definition ++ compact_text (array_json values)

-- the names in the order of their bytes, each once
abbrev pub in_order : List (List ℕ) → List (List ℕ)
in_order [] = []
in_order (name ∷ names) = insert_key (slice_cmp nat_cmp) (in_order names) name
