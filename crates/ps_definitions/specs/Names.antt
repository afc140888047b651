-- Names and sets of names.
use Rattle.std.specs.Prelude.{ℕ, Bool, false, ◌||◌, ◌&&◌, ◌==◌, List, [], ◌∷◌, map, bytes_eq}
use Rattle.std.specs.List.{list_any, list_all}
use Rattle.std.specs.Char.{is_ascii_alphabetic, is_ascii_digit}
use Rattle.ps_queries.specs.declared.queries.Output.{Output}

-- a name is in a list
abbrev pub is_in : List ℕ → List (List ℕ) → Bool
is_in name names = list_any (λ other. bytes_eq other name) names

-- some name stands twice
abbrev pub has_repeated : List (List ℕ) → Bool
has_repeated [] = false
has_repeated (name ∷ names) = is_in name names || has_repeated names

-- each name of the first list is in the second
abbrev pub are_in : List (List ℕ) → List (List ℕ) → Bool
are_in names others = list_all (λ name. is_in name others) names

-- two lists have the same set of names
abbrev pub same_names : List (List ℕ) → List (List ℕ) → Bool
same_names a b = are_in a b && are_in b a

-- the names of outputs, in order
abbrev pub output_names : List Output → List (List ℕ)
output_names outputs = map (λ (o : Output). o.name) outputs

abbrev pub begins_word : List ℕ → Bool
begins_word [] = false
begins_word (b ∷ bytes) = is_ascii_alphabetic b || b == 95

abbrev pub is_in_word : ℕ → Bool
is_in_word b = (is_ascii_alphabetic b || is_ascii_digit b) || b == 95

-- a letter or `_`, then letters, digits and `_`
abbrev pub is_definition_name : List ℕ → Bool
is_definition_name name = begins_word name && list_all is_in_word name
