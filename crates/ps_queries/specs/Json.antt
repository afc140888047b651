-- JSON texts as queries read them.
use Rattle.std.specs.Prelude.{List, ℕ, Option, option_map}
use Rattle.serde_json.specs.Data.{Data}
use Rattle.ps_data.specs.Conversions.{plain_of}
use Rattle.ps_data.specs.Documents.{json_of}

-- what a text reads as, if it is JSON: each number that is no signed 64-bit whole number is null
unfoldable pub plain_json : List ℕ → Option Data
plain_json text = option_map plain_of (json_of text)
