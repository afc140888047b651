-- The values of a query, by the syntax of web forms.
use Rattle.std.specs.Prelude.{ℕ, List, [], ◌∷◌, Option, Some, None, bytes_eq, if◌then◌else◌}
use Rattle.std.specs.Str.Lossy.{utf8_lossy}
use Rattle.form_urlencoded.specs.Form.{decode, raw_pairs}

-- the text that encoded bytes stand for
unfoldable pub text_of : List ℕ → List ℕ
text_of bytes = utf8_lossy (decode bytes)

-- the value of the first pair of that name
abbrev pub value_of : List ℕ → List (List ℕ × List ℕ) → Option (List ℕ)
value_of name [] = None
value_of name (pair ∷ pairs) = if bytes_eq (text_of pair.0) name then Some (text_of pair.1) else value_of name pairs

-- the value of the first pair of that name in a query
abbrev pub query_value_of : List ℕ → List ℕ → Option (List ℕ)
query_value_of query name = value_of name (raw_pairs query)
