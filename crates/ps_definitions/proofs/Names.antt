-- The text of a bucket's name.
use Rattle.std.proofs.Common.{◌≡◌, ℕ, List, ◌++◌, map, ap}
use Rattle.json.specs.Token.{Token}
use Rattle.json.specs.Print.{print}
use Rattle.json.specs.Tree.{items_tokens}
use Rattle.serde_json.specs.View.{items_of}
use Rattle.serde_json.specs.Written.{items_outline}
use Rattle.serde_json.proofs.Texts.{print-outline}
use Rattle.ps_data.specs.declared.values.Value.{Value}
use Rattle.ps_data.specs.Documents.{data_of}
use Rattle.ps_values.specs.Writing.{value_tokens}
use Rattle.ps_definitions.specs.Buckets.{array_json, bucket_name_of}

-- the tokens of values, and of the bracket that closes them
abbrev pub left_tokens : List Value → List Token
left_tokens values = items_tokens (items_outline (items_of (map data_of values)))

pub name_written : (definition : List ℕ) (values : List Value) → definition ++ print (value_tokens (array_json values)) ≡ bucket_name_of definition values
unfolding bucket_name_of
name_written definition values = ap (λ text. definition ++ text) (print-outline (array_json values))
