-- The tokens of JSON, and what a writer of them has added.
use Rattle.std.specs.Prelude.{◌≡◌, ℕ, List, [], ◌∷◌, ◌++◌}
use Rattle.json.specs.Token.{Token, key}
use Rattle.json.specs.Tree.{json_tokens}
use Rattle.json.specs.Written.{Written}
use Rattle.serde_json.specs.Data.{Data as Json}
use Rattle.serde_json.specs.Written.{outline}

abbrev pub tokens_of : Json → List Token
tokens_of json = json_tokens (outline json)

abbrev pub member_tokens : List ℕ × Json → List Token
member_tokens named = key named.0 ∷ tokens_of named.1

abbrev pub members_tokens : List (List ℕ × Json) → List Token
members_tokens [] = []
members_tokens (named ∷ more) = member_tokens named ++ members_tokens more

-- behind what the writer held stand these tokens too
pub record Adds (old new : Written) (added : List Token) : Type 0 where
  pub before : new.before ≡ old.before
  pub tokens : new.tokens ≡ old.tokens ++ added
